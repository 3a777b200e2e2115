-- `chance_in_range` is the range test at the chance's ends.
-- Assumes nothing.
use Rattle.limit.specs.Limit.{chance_in_range}
use Rattle.limit.proofs.chance_in_range.Goals as goal

pub returns : goal.returns
unfolding chance_in_range
returns c = c.in_range.ensures
