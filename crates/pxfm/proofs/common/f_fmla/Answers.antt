-- `f_fmla`: its product and its sum are the definition's two operations, so the definition opened is the code's result.
-- Assumes nothing.
use Rattle.std.proofs.Common.{refl}
use Rattle.pxfm.specs.Common.{f_fmla}
use Rattle.pxfm.proofs.common.f_fmla.Goals as goal

pub returns : goal.returns
unfolding f_fmla
returns c = refl
