-- `work_out` works one limit out a turn and keeps its bits.
-- Assumes nothing.
use Rattle.limit.specs.Answer.{moments_meaning}
use Rattle.journal.proofs.WorkedOut.{LimitsKept}
use Rattle.journal.proofs.offer.work_out.Given as goal

abbrev pub invariant-loop-i : goal.invariant-loop-i
invariant-loop-i l = LimitsKept (moments_meaning l.worked) l.chances l.bits l.i
