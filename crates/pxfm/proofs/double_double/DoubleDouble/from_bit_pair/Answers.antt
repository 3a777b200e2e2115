-- `from_bit_pair`: what it requires, that neither pattern is a NaN's, is what `f64::from_bits` asks; the result is the definition itself.
-- Assumes nothing.
use Rattle.std.proofs.Common.{refl}
use Rattle.pxfm.specs.DoubleDouble.{from_bit_pair}
use Rattle.pxfm.proofs.double_double.DoubleDouble.from_bit_pair.Goals as goal

pub returns : goal.returns
unfolding from_bit_pair
returns c = refl
