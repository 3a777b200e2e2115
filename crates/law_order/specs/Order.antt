-- What a planner takes for granted about limits and bands, said of every allowed set of times. Definitions only.
-- `AtMost x y` is the comparison of doubles; it is false where either is a NaN, so each of these says too that its numbers are none.
use Rattle.std.specs.Prelude.{ℕ, ◌^◌, ◌≤◌, ◌<◌, ◌≡◌, true, List, length, Float}
use Rattle.std.specs.Float.{binary64}
use Rattle.std.specs.Float.Ieee.{fits, of_bits, to_bits, neg, lt, le}
use Rattle.std.specs.Float.Ieee.Scale.{finite}
use Rattle.pxfm.specs.DoubleDouble.{one, two}
use Rattle.pxfm.specs.Argument.{zero}
use Rattle.pxfm.specs.Inverfc.{f_erfcinv}
use Rattle.limit.specs.declared.Figures.{Figures}
use Rattle.limit.specs.Times.{sum_of, squares_of}
use Rattle.limit.specs.Formula.{half_million, mean_of, quantile_of, formula_of}
use Rattle.limit.specs.Answer.{limited}
use Rattle.limit.specs.Limit.{limit_of}
use Rattle.band.specs.declared.Ends.{Ends}
use Rattle.band.specs.Answer.{banded}
use Rattle.band.specs.Band.{inverse_of, ends_of, band_of}

-- x ≤ y, and x < y
abbrev pub AtMost : Float → Float → Type 0
AtMost x y = le x y ≡ true

abbrev pub Below : Float → Float → Type 0
Below x y = lt x y ≡ true

-- a double that is a number
pub record Finite (x : Float) : Type 0 where
  pub double : fits binary64 x ≡ true
  pub number : finite x ≡ true

-- ---- limits

-- the mean of the times, and under a form their limit at the chance c
abbrev pub mean_at : List ℕ → Float
mean_at ts = mean_of (length ts) (sum_of ts)

abbrev pub limit_at : ℕ → List ℕ → ℕ → Float
limit_at form ts c = formula_of form (length ts) (sum_of ts) (squares_of ts) c

-- even chances: 500,000 in a million
abbrev pub even_chance : ℕ
even_chance = half_million

-- At even chances the limit is the mean, bit for bit.
pub record EvenLimit (form : ℕ) (ts : List ℕ) : Type 0 where
  pub same : limit_at form ts even_chance ≡ mean_at ts
  pub bits : to_bits binary64 (limit_at form ts even_chance) ≡ to_bits binary64 (mean_at ts)

-- Where the quantile at d is at most that at c, so is the limit.
pub record LimitOrder (form : ℕ) (ts : List ℕ) (d c : ℕ) : Type 0 where
  pub follows : AtMost (quantile_of d) (quantile_of c) → AtMost (limit_at form ts d) (limit_at form ts c)

-- Up to even chances, which is what append takes (document 02, 2026-10), the limit is not below the mean; from there on not above it.
pub record LimitSide (form : ℕ) (ts : List ℕ) (c : ℕ) : Type 0 where
  pub above : c ≤ even_chance → AtMost (mean_at ts) (limit_at form ts c)
  pub below : even_chance ≤ c → AtMost (limit_at form ts c) (mean_at ts)

-- The limits at the chances of the profile for safety controllers (document 02, 2026-14), 1, 10, 100 and 1,000 in a million: none is below one of a
-- greater chance, and the last is not below the mean. The buyer's planners cut their slots from it.
pub record ProfileOrder (form : ℕ) (ts : List ℕ) : Type 0 where
  pub ten : AtMost (limit_at form ts 10) (limit_at form ts 1)
  pub hundred : AtMost (limit_at form ts 100) (limit_at form ts 10)
  pub thousand : AtMost (limit_at form ts 1_000) (limit_at form ts 100)
  pub mean : AtMost (mean_at ts) (limit_at form ts 1_000)

-- ---- the quantile's sign

-- the sign bit of a double
abbrev pub sign_bit : ℕ
sign_bit = 2 ^ 63

-- the double 64
abbrev pub sixty_four : Float
sixty_four = of_bits binary64 0x4050_0000_0000_0000

-- Between 0 and 2 the quantile is a number. Below 1 it is above zero and at most 64, the sign bit clear; above 1 below zero and at least -64, the
-- sign bit set. What it is at 1 and at every other double is `QuantileEverywhere`.
pub record QuantileSign (x : Float) : Type 0 where
  pub number : Below zero x → Below x two → Finite (f_erfcinv x)
  pub above : Below zero x → Below x one → Below zero (f_erfcinv x)
  pub most : Below zero x → Below x one → AtMost (f_erfcinv x) sixty_four
  pub clear : Below zero x → Below x one → to_bits binary64 (f_erfcinv x) < sign_bit
  pub below : Below one x → Below x two → Below (f_erfcinv x) zero
  pub least : Below one x → Below x two → AtMost (neg sixty_four) (f_erfcinv x)
  pub set : Below one x → Below x two → sign_bit ≤ to_bits binary64 (f_erfcinv x)

-- ---- bands

-- the shortest and the longest time of the band of the times at the share w
abbrev pub low_at : List ℕ → ℕ → Float
low_at ts w = (ends_of (length ts) (sum_of ts) (squares_of ts) w).low

abbrev pub high_at : List ℕ → ℕ → Float
high_at ts w = (ends_of (length ts) (sum_of ts) (squares_of ts) w).high

-- The mean lies in the band.
pub record MeanInside (ts : List ℕ) (w : ℕ) : Type 0 where
  pub low : AtMost (low_at ts w) (mean_at ts)
  pub high : AtMost (mean_at ts) (high_at ts w)

-- Where the inverse error function at v is at most that at w, the band of v lies in that of w.
pub record BandOrder (ts : List ℕ) (v w : ℕ) : Type 0 where
  pub low : AtMost (inverse_of v) (inverse_of w) → AtMost (low_at ts w) (low_at ts v)
  pub high : AtMost (inverse_of v) (inverse_of w) → AtMost (high_at ts v) (high_at ts w)

-- ---- the same of what the operations answer, whatever they are asked

-- what the limit operation answers for one list of times under one form, with mean, spread, quantile and limit
pub record AnswersInOrder (form : ℕ) (ts : List ℕ) : Type 0 where
  pub even : (f : Figures) → limit_of form ts even_chance ≡ limited f → to_bits binary64 f.limit ≡ to_bits binary64 f.mean
  pub above : (c : ℕ) (f : Figures) → limit_of form ts c ≡ limited f → c ≤ even_chance → AtMost f.mean f.limit
  pub below : (c : ℕ) (f : Figures) → limit_of form ts c ≡ limited f → even_chance ≤ c → AtMost f.limit f.mean
  pub order : (d c : ℕ) (f g : Figures) → limit_of form ts d ≡ limited f → limit_of form ts c ≡ limited g → AtMost f.quantile g.quantile
      → AtMost f.limit g.limit

-- what the band operation answers for one list of times
pub record BandsInOrder (ts : List ℕ) : Type 0 where
  pub low : (w : ℕ) (e : Ends) → band_of ts w ≡ banded e → AtMost e.low (mean_at ts)
  pub high : (w : ℕ) (e : Ends) → band_of ts w ≡ banded e → AtMost (mean_at ts) e.high
  pub order : (v w : ℕ) (d e : Ends) → band_of ts v ≡ banded d → band_of ts w ≡ banded e → AtMost (inverse_of v) (inverse_of w)
      → AtMost e.low d.low × AtMost d.high e.high
