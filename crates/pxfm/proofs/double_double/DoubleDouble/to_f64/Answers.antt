-- `to_f64`: the sum of the two parts, which is the definition itself.
-- Assumes nothing.
use Rattle.std.proofs.Common.{refl}
use Rattle.pxfm.specs.DoubleDouble.{to_f64}
use Rattle.pxfm.proofs.double_double.DoubleDouble.to_f64.Goals as goal

pub returns : goal.returns
unfolding to_f64
returns c = refl
