-- `log_poly_1`: the six coefficients are computed not to be a NaN's patterns, and are those of the definition's list;
-- the equations of its eight calls, the last one first, rewrite the result to the definition's. Assumes nothing.
use lib.Ieee.{nan_bits}
use Rattle.pxfm.specs.PowExec.{log_poly1, p1}
use Rattle.pxfm.proofs.pow_exec.log_poly_1.Goals as goal

pub returns : goal.returns
unfolding log_poly1 p1
returns c =
    rw (
      c.new.ensures,
      c.dd_fmla.ensures,
      c.dd_fmla-v-2.ensures,
      c.dd_fmla-u-2.ensures,
      c.dd_fmla-v.ensures,
      c.dd_fmla-u.ensures,
      c.dd_fmla-t.ensures,
      c.from_exact_mult-w.ensures,
    )

pub float_from_bits-dd_fmla : goal.float_from_bits-dd_fmla
unfolding nan_bits
float_from_bits-dd_fmla c = tt

pub float_from_bits-dd_fmla-2 : goal.float_from_bits-dd_fmla-2
unfolding nan_bits
float_from_bits-dd_fmla-2 c = tt

pub float_from_bits-dd_fmla-3 : goal.float_from_bits-dd_fmla-3
unfolding nan_bits
float_from_bits-dd_fmla-3 c = tt

pub float_from_bits-dd_fmla-4 : goal.float_from_bits-dd_fmla-4
unfolding nan_bits
float_from_bits-dd_fmla-4 c = tt

pub float_from_bits-dd_fmla-5 : goal.float_from_bits-dd_fmla-5
unfolding nan_bits
float_from_bits-dd_fmla-5 c = tt

pub float_from_bits-dd_fmla-6 : goal.float_from_bits-dd_fmla-6
unfolding nan_bits
float_from_bits-dd_fmla-6 c = tt
