-- `records_of` reads one record a turn: its loop keeps the count, the last record and what is asked of record i.
-- The measure is what is left of the bytes, since a record takes some. Assumes nothing.
use Prim.Native.Nat.{◌-◌}
use lib.ListN.{length}
use Rattle.journal.proofs.Counting.{Counting}
use Rattle.journal.proofs.contents.records_of.Given as goal

abbrev pub invariant-loop-e : goal.invariant-loop-e
invariant-loop-e l = Counting l.rule l.b l.i l.records l.committed l.last l.shown

abbrev pub decreases-loop-e : goal.decreases-loop-e
decreases-loop-e l = length l.b - l.committed
