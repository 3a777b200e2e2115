-- `neg`: both parts with the other sign, which is the definition itself.
-- Assumes nothing.
use Rattle.std.proofs.Common.{refl}
use Rattle.pxfm.specs.DoubleDouble.{neg_of}
use Rattle.pxfm.proofs.double_double.DoubleDoubleNeg.neg.Goals as goal

pub returns : goal.returns
unfolding neg_of
returns c = refl
