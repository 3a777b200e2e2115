-- `mul_add`: the equations of the product, of the sum with its high part and of `new` rewrite the result to the definition's.
-- Assumes nothing.
use Rattle.pxfm.specs.DoubleDouble.{mul_add}
use Rattle.pxfm.proofs.double_double.DoubleDouble.mul_add.Goals as goal

pub returns : goal.returns
unfolding mul_add
returns c = rw (c.new.ensures, c.full_add_f64-s.ensures, c.quick_mult-m.ensures)
