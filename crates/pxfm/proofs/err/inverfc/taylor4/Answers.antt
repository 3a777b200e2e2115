-- `taylor4`: none of its constants is a NaN's pattern, by computation; the equations of its seven calls, the last one first, rewrite the result.
-- Assumes nothing.
use lib.Ieee.{nan_bits}
use Rattle.pxfm.specs.Inverfc.{taylor4_of, taylor}
use Rattle.pxfm.specs.DoubleDouble.{from_bit_pair}
use Rattle.pxfm.proofs.err.inverfc.taylor4.Goals as goal

pub returns : goal.returns
unfolding taylor4_of taylor from_bit_pair
returns c =
    rw (
      c.quick_mult.ensures,
      c.mul_add-r0.ensures,
      c.pair-2.ensures,
      c.mul_f64_add-r1.ensures,
      c.pair.ensures,
      c.f_fmla-p.ensures,
      c.quick_mult-z2.ensures,
    )

pub float_from_bits-f_fmla : goal.float_from_bits-f_fmla
unfolding nan_bits
float_from_bits-f_fmla c = tt

pub float_from_bits-f_fmla-2 : goal.float_from_bits-f_fmla-2
unfolding nan_bits
float_from_bits-f_fmla-2 c = tt

pub pair-requires : goal.pair-requires
unfolding nan_bits
pair-requires c = (tt, tt)

pub pair-requires-2 : goal.pair-requires-2
unfolding nan_bits
pair-requires-2 c = (tt, tt)
