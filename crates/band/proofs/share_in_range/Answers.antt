-- `share_in_range` answers the range test of the range with both its ends.
-- Assumes nothing.
use Rattle.std.proofs.Common.{arith}
use Rattle.std.proofs.lemmas.Bool.Decides.{nat_tests}
use Rattle.std.proofs.lemmas.Grind.{common_steps}
use Rattle.limit.specs.Times.{in_range}
use Rattle.band.specs.Band.{share_in_range}
use Rattle.band.proofs.share_in_range.Goals as goal

pub returns : goal.returns
unfolding share_in_range in_range
returns c = rw (c.contains.ensures.value, c.new.ensures.start, c.new.ensures.end, c.new.ensures.exhausted) (grind (arith, nat_tests, common_steps))
