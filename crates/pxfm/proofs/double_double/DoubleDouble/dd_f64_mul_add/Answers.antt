-- `dd_f64_mul_add`: the equations of its three calls, the product's pair, the sum with c and `to_f64`, rewrite the result to the definition's.
-- Assumes nothing.
use Rattle.pxfm.specs.DoubleDouble.{dd_f64_mul_add}
use Rattle.pxfm.proofs.double_double.DoubleDouble.dd_f64_mul_add.Goals as goal

pub returns : goal.returns
unfolding dd_f64_mul_add
returns c = rw (c.to_f64.ensures, c.full_add_f64-zv.ensures, c.from_exact_mult-ddx2.ensures)
