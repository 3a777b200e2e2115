-- `measure` takes one record a turn: its loop keeps where it stands and what is measured. The measure is what is left of both journals. Assumes nothing.
use Rattle.journal_merge.proofs.Pass.{left_of, Measuring}
use Rattle.journal_merge.proofs.measuring.measure.Given as goal

abbrev pub invariant-records : goal.invariant-records
invariant-records l = Measuring l.a l.b l.p l.n l.form

abbrev pub decreases-records : goal.decreases-records
decreases-records l = left_of l.a l.b l.p
