-- `gather` is one pass: its loop keeps the sums of the times passed, each of them in range.
-- Assumes nothing.
use Rattle.limit.proofs.Gathering.{Gathering}
use Rattle.limit.proofs.sums.gather.Given as goal

abbrev pub invariant-loop-t : goal.invariant-loop-t
invariant-loop-t l = Gathering l.times l.t-index l.s
