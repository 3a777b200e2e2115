-- `reduced`: the pattern with the exponent's field 1023 is below an infinity's, so it is no NaN's; then the equation of `factor` rewrites the result.
-- Assumes nothing.
use Rattle.std.proofs.Common.{arith}
use Rattle.pxfm.specs.FastLogDd.{reduced_of}
use Rattle.pxfm.proofs.Nan.{pattern_number}
use Rattle.pxfm.proofs.logs.fast_log_dd.reduced.Goals as goal

pub float_from_bits-result : goal.float_from_bits-result
unfolding reduced_of
float_from_bits-result c = pattern_number _ (omega arith)

pub returns : goal.returns
unfolding reduced_of
returns c = rw c.factor.ensures
