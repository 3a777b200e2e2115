-- `mul_add_f64`: the equations of the product, of the sum of c and its high part and of `new` rewrite the result to the definition's.
-- Assumes nothing.
use Rattle.pxfm.specs.DoubleDouble.{mul_add_f64}
use Rattle.pxfm.proofs.double_double.DoubleDouble.mul_add_f64.Goals as goal

pub returns : goal.returns
unfolding mul_add_f64
returns c = rw (c.new.ensures, c.from_full_exact_add-s.ensures, c.quick_mult-m.ensures)
