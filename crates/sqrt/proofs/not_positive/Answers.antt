-- `not_positive` meets its contract: the two cases of a value that is not above zero. Assumes nothing.
use lib.Ieee.{of_bits, div}
use Rattle.sqrt.proofs.Special.{zero_root, nan_root}
use Rattle.sqrt.proofs.not_positive.Goals as goal

pub returns-then-x : goal.returns-then-x
returns-then-x c = zero_root c.args.x c.if-x.true

pub returns : goal.returns
unfolding of_bits div
returns c = nan_root c.args.x c.requires c.if-x.false
