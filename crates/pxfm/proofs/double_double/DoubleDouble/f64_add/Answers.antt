-- `f64_add`: the equation of its one call, `from_exact_add`, rewrites the result to the definition's.
-- Assumes nothing.
use Rattle.pxfm.specs.DoubleDouble.{f64_add}
use Rattle.pxfm.proofs.double_double.DoubleDouble.f64_add.Goals as goal

pub returns : goal.returns
unfolding f64_add
returns c = rw c.from_exact_add-t.ensures
