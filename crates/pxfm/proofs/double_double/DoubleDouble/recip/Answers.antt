-- `recip`: the equations of the two exact products with 1 / hi and of `new` rewrite the result to the definition's.
-- Assumes nothing.
use Rattle.pxfm.specs.DoubleDouble.{recip_of}
use Rattle.pxfm.proofs.double_double.DoubleDouble.recip.Goals as goal

pub returns : goal.returns
unfolding recip_of
returns c = rw (c.new.ensures, c.from_exact_mult-p2.ensures, c.from_exact_mult-p1.ensures)
