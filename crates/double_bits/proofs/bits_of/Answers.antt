-- `bits_of` meets its contract: a NaN's pattern is the definition's, and `to_bits` is asked only for other values. Assumes nothing.
use mathlib.Core.Path.{sym, ◌∙◌}
use lib.Ieee.{to_bits}
use Rattle.double_bits.proofs.Nans.{nan_only}
use Rattle.double_bits.proofs.bits_of.Goals as goal

pub returns-then-is_nan : goal.returns-then-is_nan
unfolding to_bits
returns-then-is_nan c = rw (nan_only c.args.x (sym c.is_nan.ensures.value ∙ c.if-is_nan.true))
