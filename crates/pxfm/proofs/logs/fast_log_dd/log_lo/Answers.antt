-- `log_lo`: its three tests are the definition's.
-- Assumes nothing.
use Rattle.std.proofs.Common.{arith}
use Rattle.std.proofs.lemmas.Bool.Decides.{nat_tests}
use lib.Ieee.{nan_bits}
use Rattle.pxfm.specs.FastLogDd.{log_lo}
use Rattle.pxfm.proofs.logs.fast_log_dd.log_lo.Goals as goal

pub float_from_bits-t-5 : goal.float_from_bits-t-5
unfolding nan_bits
float_from_bits-t-5 c = tt

pub returns-then-ddx-3 : goal.returns-then-ddx-3
unfolding log_lo nan_bits
returns-then-ddx-3 c = grind (arith, nat_tests)

pub returns-else-ddx-3 : goal.returns-else-ddx-3
unfolding log_lo nan_bits
returns-else-ddx-3 c = grind (arith, nat_tests)
