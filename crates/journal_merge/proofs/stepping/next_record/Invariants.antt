-- `next_record` drops records until one is next: nothing that is made changes. The measure is what is left of both journals. Assumes nothing.
use Rattle.journal_merge.specs.Passes.{Passed}
use Rattle.journal_merge.proofs.Pass.{left_of}
use Rattle.journal_merge.proofs.stepping.next_record.Given as goal

abbrev pub invariant-steps : goal.invariant-steps
invariant-steps l = Passed l.a l.b l.fn.from l.at

abbrev pub decreases-steps : goal.decreases-steps
decreases-steps l = left_of l.a l.b l.at
