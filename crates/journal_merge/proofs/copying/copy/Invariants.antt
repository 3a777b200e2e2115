-- `copy` takes one record a turn: its loop keeps where it stands and what is copied. The measure is what is left of both journals. Assumes nothing.
use Rattle.journal_merge.proofs.Pass.{left_of, Copying}
use Rattle.journal_merge.proofs.copying.copy.Given as goal

abbrev pub invariant-records : goal.invariant-records
invariant-records l = Copying l.a l.b l.initial.out l.out l.p l.n

abbrev pub decreases-records : goal.decreases-records
decreases-records l = left_of l.a l.b l.p
