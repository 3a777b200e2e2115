-- The limit of the times 100 and 100 at an even chance is 100 under form 1: a closed case of the formula, computed through the definitions of the
-- root and of the quantile. The example of document 01 has this limit. Assumes nothing.
use mathlib.Core.Path.{◌≡◌, refl}
use mathlib.Core.List.{[], ◌∷◌}
use lib.Ieee.{binary64, of_int, of_bits, to_bits, is_nan, eq, lt, add, mul, div}
use Rattle.sqrt.specs.Sqrt.{sqrt_in}
use Rattle.pxfm.specs.Inverfc.{f_erfcinv}
use Rattle.limit.specs.Times.{sum_of, squares_of}
use Rattle.limit.specs.Formula.{plain_form, divisor_of, mean_of, spread_by, spread_of, quantile_of, limit_from, formula_of}
use Rattle.journal_spec.specs.Model.{worked_out}

pub worked_plain : worked_out plain_form (100 ∷ 100 ∷ []) 500_000 ≡ of_bits binary64 0x4059_0000_0000_0000
unfolding worked_out formula_of divisor_of mean_of spread_by spread_of quantile_of limit_from sum_of squares_of
    of_int of_bits to_bits is_nan eq lt add mul div sqrt_in f_erfcinv
worked_plain = refl
