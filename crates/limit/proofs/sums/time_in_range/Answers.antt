-- `time_in_range` is the range test at a time's ends.
-- Assumes nothing.
use Rattle.limit.specs.Times.{time_in_range}
use Rattle.limit.proofs.sums.time_in_range.Goals as goal

pub returns : goal.returns
unfolding time_in_range
returns c = c.in_range.ensures
