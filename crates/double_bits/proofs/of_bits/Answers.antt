-- `of_bits` meets its contract: 0 / 0 is the NaN, and `from_bits` is asked only for other patterns. Assumes nothing.
use mathlib.Core.Path.{sym}
use lib.Ieee.{of_bits, div}
use Rattle.double_bits.proofs.Nans.{pattern_nan, pattern_plain}
use Rattle.double_bits.proofs.of_bits.Goals as goal

pub returns-then-b-gt-INFINITY : goal.returns-then-b-gt-INFINITY
unfolding div of_bits
returns-then-b-gt-INFINITY c = sym (pattern_nan c.args.b c.if-b-gt-INFINITY.true)

pub float_from_bits-result : goal.float_from_bits-result
float_from_bits-result c = pattern_plain c.args.b c.if-b-gt-INFINITY.false
