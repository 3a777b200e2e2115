-- `walk` passes one entry a turn.
-- Assumes nothing.
use mathlib.Core.Path.{ap}
use Prim.Native.Nat.{ℕ, ◌+◌}
use native.Mathlib.Omega.{arith}
use Rattle.journal_entries.proofs.ByCounts.{entry_inside, walk_short, walk_ends, walk_next}
use Rattle.journal_entries.proofs.walking.walk.Goals as goal

pub returns-in_default : goal.returns-in_default
returns-in_default c = walk_short _ _ _ _ _ c.loop-count.invariant c.in_default.ensures

pub overflow_add-place : goal.overflow_add-place
overflow_add-place c = omega (arith, entry_inside _ _ _ _ c.in-Some.ensures)

pub loop-count-preserved : goal.loop-count-preserved
loop-count-preserved c =
    let l = c.loop-count in
    walk_next _ _ _ _ _ l.invariant _ _ _ _ c.in-Some.ensures (omega arith) (omega arith) (ap (λ (n : ℕ). l.place + n) c.size-place.ensures)

pub returns : goal.returns
returns c =
    let l = c.loop-count in
    walk_ends _ _ _ _ _ l.invariant (omega arith) (omega arith)
