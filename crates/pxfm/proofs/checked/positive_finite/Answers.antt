-- `positive_finite`: a NaN's pattern is above the infinity's, so the definition is false too; for a number the two tests are the definition's.
-- Assumes nothing.
use Rattle.std.proofs.Common.{sym, ◌∙◌, arith}
use Rattle.std.proofs.lemmas.Bool.Decides.{nat_tests}
use lib.Ieee.{to_bits}
use Rattle.double_bits.proofs.Nans.{nan_only}
use Rattle.pxfm.specs.Checked.{positive_finite}
use Rattle.pxfm.proofs.checked.positive_finite.Goals as goal

pub returns-then-is_nan : goal.returns-then-is_nan
unfolding positive_finite to_bits
returns-then-is_nan c = rw (nan_only c.args.x (sym c.is_nan.ensures.value ∙ c.if-is_nan.true))

pub returns-then-b-gt0 : goal.returns-then-b-gt0
unfolding positive_finite
returns-then-b-gt0 c = grind (arith, nat_tests)

pub returns-else-b-gt0 : goal.returns-else-b-gt0
unfolding positive_finite
returns-else-b-gt0 c = grind (arith, nat_tests)
