-- `full_add_f64`: the equation of its one call, `from_full_exact_add`, rewrites the result to the definition's.
-- Assumes nothing.
use Rattle.pxfm.specs.DoubleDouble.{full_add_f64}
use Rattle.pxfm.proofs.double_double.DoubleDouble.full_add_f64.Goals as goal

pub returns : goal.returns
unfolding full_add_f64
returns c = rw c.from_full_exact_add-t.ensures
