-- `rounds_alike`: its two constants are no NaN's patterns, by computation; the equation of the error's `f_fmla` makes the comparison the definition's.
-- Assumes nothing.
use lib.Ieee.{nan_bits}
use Rattle.pxfm.specs.Inverfc.{rounds_alike}
use Rattle.pxfm.proofs.err.inverfc.rounds_alike.Goals as goal

pub returns : goal.returns
unfolding rounds_alike
returns c = rw c.f_fmla-err.ensures

pub float_from_bits-f_fmla : goal.float_from_bits-f_fmla
unfolding nan_bits
float_from_bits-f_fmla c = tt

pub float_from_bits-f_fmla-2 : goal.float_from_bits-f_fmla-2
unfolding nan_bits
float_from_bits-f_fmla-2 c = tt
