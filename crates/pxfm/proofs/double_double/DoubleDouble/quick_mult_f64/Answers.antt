-- `quick_mult_f64`: the equations of the high part's exact product and of `new` rewrite the result to the definition's.
-- Assumes nothing.
use Rattle.pxfm.specs.DoubleDouble.{quick_mult_f64}
use Rattle.pxfm.proofs.double_double.DoubleDouble.quick_mult_f64.Goals as goal

pub returns : goal.returns
unfolding quick_mult_f64
returns c = rw (c.new.ensures, c.from_exact_mult-c.ensures)
