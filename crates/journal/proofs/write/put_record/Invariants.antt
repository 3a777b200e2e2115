-- `put_record` takes one step after another to the budget's end. The measure is how many bytes are left.
-- Assumes nothing.
use Prim.Native.Nat.{◌-◌, ◌≤◌}
use Rattle.journal.specs.Stepped.{Filled}
use Rattle.journal.proofs.write.put_record.Given as goal

abbrev pub invariant-loop-p : goal.invariant-loop-p
invariant-loop-p l = Filled l.bytes l.initial.part 0 l.p l.part × (l.p ≤ l.end)

abbrev pub decreases-loop-p : goal.decreases-loop-p
decreases-loop-p l = l.end - l.p
