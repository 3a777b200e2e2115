-- `all_equal` meets its contract, by the invariant `Comparing`.
-- Assumes nothing.
use Prim.Native.Nat.{◌*◌, ◌-◌}
use Rattle.journal.proofs.Equal.{Comparing}
use Rattle.journal.proofs.marks.all_equal.Given as goal

abbrev pub invariant-loop-i : goal.invariant-loop-i
invariant-loop-i l = Comparing l.b l.n l.first (l.i * 4) (l.n - l.i)
