-- `div`: the equations of the two exact products with the negated quotient and of `new` rewrite the result to the definition's.
-- Assumes nothing.
use Rattle.pxfm.specs.DoubleDouble.{div_of}
use Rattle.pxfm.proofs.double_double.DoubleDouble.div.Goals as goal

pub returns : goal.returns
unfolding div_of
returns c = rw (c.new.ensures, c.from_exact_mult-b_lo_r_hi.ensures, c.from_exact_mult-b_hi_r_hi.ensures)
