-- `nan_pair`: 0 / 0 is computed to be the NaN, and `new` makes the pair.
-- Assumes nothing.
use lib.Ieee.{div, of_bits}
use Rattle.pxfm.proofs.checked.nan_pair.Goals as goal

pub returns : goal.returns
unfolding div of_bits
returns c = c.new.ensures
