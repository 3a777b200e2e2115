-- `quick_mult`: the equations of the high parts' exact product and of `new` rewrite the result to the definition's.
-- The two cross products are summed first in both: in another order the two sides would not be the same term. Assumes nothing.
use Rattle.pxfm.specs.DoubleDouble.{quick_mult}
use Rattle.pxfm.proofs.double_double.DoubleDouble.quick_mult.Goals as goal

pub returns : goal.returns
unfolding quick_mult
returns c = rw (c.new.ensures, c.from_exact_mult-c.ensures)
