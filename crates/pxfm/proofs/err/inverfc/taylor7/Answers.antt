-- `taylor7`: none of its constants is a NaN's pattern, by computation; the equations of its nine calls, the last one first, rewrite the result.
-- Assumes nothing.
use lib.Ieee.{nan_bits}
use Rattle.pxfm.specs.Inverfc.{taylor7_of, taylor}
use Rattle.pxfm.specs.DoubleDouble.{from_bit_pair}
use Rattle.pxfm.proofs.err.inverfc.taylor7.Goals as goal

pub returns : goal.returns
unfolding taylor7_of taylor from_bit_pair
returns c =
    rw (
      c.quick_mult.ensures,
      c.mul_add-r0.ensures,
      c.pair-3.ensures,
      c.mul_add-r1.ensures,
      c.pair-2.ensures,
      c.mul_f64_add-r2.ensures,
      c.pair.ensures,
      c.f_polyeval4-p.ensures,
      c.quick_mult-z2.ensures,
    )

pub float_from_bits-f_polyeval4 : goal.float_from_bits-f_polyeval4
unfolding nan_bits
float_from_bits-f_polyeval4 c = tt

pub float_from_bits-f_polyeval4-2 : goal.float_from_bits-f_polyeval4-2
unfolding nan_bits
float_from_bits-f_polyeval4-2 c = tt

pub float_from_bits-f_polyeval4-3 : goal.float_from_bits-f_polyeval4-3
unfolding nan_bits
float_from_bits-f_polyeval4-3 c = tt

pub float_from_bits-f_polyeval4-4 : goal.float_from_bits-f_polyeval4-4
unfolding nan_bits
float_from_bits-f_polyeval4-4 c = tt

pub pair-requires : goal.pair-requires
unfolding nan_bits
pair-requires c = (tt, tt)

pub pair-requires-2 : goal.pair-requires-2
unfolding nan_bits
pair-requires-2 c = (tt, tt)

pub pair-requires-3 : goal.pair-requires-3
unfolding nan_bits
pair-requires-3 c = (tt, tt)
