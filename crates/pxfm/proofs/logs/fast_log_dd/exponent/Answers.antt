-- `exponent`: the exponent is at most 2097 and the carry at most 1, so the sum does not wrap;
-- the law `exponent_signed` turns the double of the biased sum less 1074 into the double of the signed exponent. Assumes nothing.
use Rattle.std.proofs.Common.{◌≡◌, ◌+◌, ◌%◌, ◌^◌, arith}
use Rattle.pxfm.specs.FastLogDd.{exponent_of}
use Rattle.pxfm.proofs.Exponent.{exponent_signed}
use Rattle.pxfm.proofs.logs.fast_log_dd.exponent.Goals as goal

-- The sum does not wrap.
sum : (c : goal.After-row_known-1) → (c.args.e + c.carry.result) % 2 ^ 32 ≡ c.args.e + c.carry.result
sum c = omega (arith, c.carry.ensures.1)

pub int_to_float-result : goal.int_to_float-result
unfolding exponent_of
int_to_float-result c = tt

pub returns : goal.returns
unfolding exponent_of
returns c = rw (sum c) (rw (← c.carry.ensures.0) (exponent_signed _ (omega (arith, c.carry.ensures.1))))
