-- `fast_sqrt`: the equations of `sqrt` and of the root's exact square rewrite the result to the definition's; the correction's steps are the same operations.
-- Assumes nothing.
use Rattle.pxfm.specs.DoubleDouble.{fast_sqrt}
use Rattle.pxfm.proofs.double_double.DoubleDouble.fast_sqrt.Goals as goal

pub returns : goal.returns
unfolding fast_sqrt
returns c = rw (c.from_exact_mult-x2.ensures, c.sqrt-x.ensures)
