-- `log_parts`: x is no NaN since its pattern is below an infinity's, and no entry of the tables is one;
-- the equations of its calls, the last one first, rewrite the result to the definition's. Assumes nothing.
use Rattle.pxfm.specs.DoubleDouble.{log2_dd, from_bit_pair}
use Rattle.pxfm.specs.FastLogDd.{parts_of}
use Rattle.pxfm.proofs.Nan.{bits_number}
use Rattle.pxfm.proofs.Rows.{plain_inverse, plain_low, plain_high}
use Rattle.pxfm.proofs.logs.fast_log_dd.log_parts.Goals as goal

pub returns : goal.returns
unfolding parts_of log2_dd from_bit_pair
returns c =
    rw (
      c.f64_add-v.ensures,
      c.new.ensures,
      c.mul_f64_add-dt.ensures,
      c.new-log_r.ensures,
      c.exponent-be.ensures,
      c.dd_fmla-z.ensures,
      c.reduced.ensures,
      c.row_at-row.ensures.inverse,
      c.row_at-row.ensures.low,
      c.row_at-row.ensures.high,
      c.index-i.ensures.0,
      c.scale-s.ensures.0,
    )

pub float_to_bits-x : goal.float_to_bits-x
float_to_bits-x c = bits_number _ c.requires.x_bound

pub float_from_bits-r : goal.float_from_bits-r
float_from_bits-r c = plain_inverse c.row_at-row.ensures

pub float_from_bits-row : goal.float_from_bits-row
float_from_bits-row c = plain_low c.row_at-row.ensures

pub float_from_bits-row-2 : goal.float_from_bits-row-2
float_from_bits-row-2 c = plain_high c.row_at-row.ensures
