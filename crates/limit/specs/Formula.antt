-- Document 01's formula over doubles, one rounding an operation: mean, spread, quantile, and the limit from them; the spread's divisor is
-- that of the form (document 02, 2026-04). The four are answered together (document 02, 2026-03).
-- The whole numbers that enter it are at most 2 ^ 53, so that `double` loses nothing.
use Rattle.std.specs.Prelude.{ℕ, ◌-◌, ◌*◌, cond, eqb, pos, Float}
use Rattle.std.specs.Float.{binary64}
use Rattle.std.specs.Float.Ieee.{of_int, of_bits, add, mul, div}
use Rattle.sqrt.specs.Sqrt.{sqrt_of}
use Rattle.pxfm.specs.Inverfc.{f_erfcinv}
use Rattle.limit.specs.declared.Moments.{Moments}
use Rattle.limit.specs.declared.Figures.{Figures}

-- a whole number as a double
abbrev pub double : ℕ → Float
double n = of_int binary64 (pos n)

-- 1.4142135623730951, the double nearest to the root of 2
abbrev pub root_two : Float
root_two = of_bits binary64 0x3ff6_a09e_667f_3bcd

-- a chance of c in a million beyond the limit is c / 500000 in the two tails together, which is what f_erfcinv takes
abbrev pub half_million : ℕ
half_million = 500_000

-- document 01's mean, S / n
unfoldable pub mean_of : ℕ → ℕ → Float
mean_of n s = div binary64 (double s) (double n)

-- document 01's D, n × Q - S × S: n × n times the variance of the times. S × S is never above n × Q (Cauchy and Schwarz).
abbrev pub scatter_of : ℕ → ℕ → ℕ → ℕ
scatter_of n s q = n * q - s * s

-- root(D / divisor)
unfoldable pub spread_by : ℕ → ℕ → Float
spread_by divisor d = sqrt_of (div binary64 (double d) (double divisor))

-- the forms: 1, document 01's, and 2, the sample spread of document 02 (2026-04)
abbrev pub plain_form : ℕ
plain_form = 1

abbrev pub sample_form : ℕ
sample_form = 2

-- what D is divided by: n × n under form 1, n × (n - 1) under form 2. Any other form is refused before this is asked.
unfoldable pub divisor_of : ℕ → ℕ → ℕ
divisor_of form n = cond (eqb form sample_form) (n * (n - 1)) (n * n)

-- the spread under a form, root(D / divisor)
unfoldable pub spread_of : ℕ → ℕ → ℕ → ℕ → Float
spread_of form n s q = spread_by (divisor_of form n) (scatter_of n s q)

-- document 01's e, the quantile of the chance c
unfoldable pub quantile_of : ℕ → Float
quantile_of c = f_erfcinv (div binary64 (double c) (double half_million))

-- mean + (spread × 1.4142135623730951) × e, products from the left
unfoldable pub limit_from : Float → Float → Float → Float
limit_from mean spread e = add binary64 mean (mul binary64 (mul binary64 spread root_two) e)

-- the formula's value under a form for n times with sum s and sum of squares q, at the chance c
unfoldable pub formula_of : ℕ → ℕ → ℕ → ℕ → ℕ → Float
formula_of form n s q c = limit_from (mean_of n s) (spread_of form n s q) (quantile_of c)

-- the four figures under a form for n times with sum s and sum of squares q, at the chance c
unfoldable pub figures_of : ℕ → ℕ → ℕ → ℕ → ℕ → Figures
figures_of form n s q c = record { mean = mean_of n s; spread = spread_of form n s q; quantile = quantile_of c; limit = formula_of form n s q c }

-- the first two alone, which no chance changes
unfoldable pub moments_of : ℕ → ℕ → ℕ → ℕ → Moments
moments_of form n s q = record { mean = mean_of n s; spread = spread_of form n s q }

-- the four from them and the quantile e
unfoldable pub figures_from : Moments → Float → Figures
figures_from m e = record { mean = m.mean; spread = m.spread; quantile = e; limit = limit_from m.mean m.spread e }
