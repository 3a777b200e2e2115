-- `walk` passes one entry a turn.
-- Assumes nothing.
use Prim.Native.Nat.{◌-◌}
use Rattle.journal_entries.proofs.ByCounts.{Walk}
use Rattle.journal_entries.proofs.walking.walk.Given as goal

abbrev pub invariant-loop-count : goal.invariant-loop-count
invariant-loop-count l = Walk l.index l.n (l.n - l.count) l.place l.count
