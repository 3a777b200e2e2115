-- Request 2026-06, said of every allowed set of times and every allowed chance: mean, spread, quantile and limit are finite; and request
-- 2026-11's band, of every allowed share: both ends are. And how large they are at most. Definitions only.
use Rattle.std.specs.Prelude.{ℕ, ◌^◌, ◌≡◌, List, T, length}
use Rattle.std.specs.Float.Ieee.Scale.{finite}
use Rattle.limit.specs.Times.{sum_of, squares_of}
use Rattle.limit.specs.Formula.{mean_of, spread_of, quantile_of, formula_of, figures_of}
use Rattle.limit.specs.Answer.{limited}
use Rattle.limit.specs.Limit.{limit_of}
use Rattle.band.specs.Answer.{banded}
use Rattle.band.specs.Band.{ends_of, band_of}
use Rattle.law_bounds.specs.Interval.{SizeAtMost}

-- under a form, for n times with sum s and sum of squares q, at the chance c
pub record FiniteUnder (form n s q c : ℕ) : Type 0 where
  pub mean : T (finite (mean_of n s))
  pub spread : T (finite (spread_of form n s q))
  pub quantile : T (finite (quantile_of c))
  pub limit : T (finite (formula_of form n s q c))

-- of a list of times: the four are finite, and the limit operation gives them, so that document 01's refusal 8 has no case
pub record FiniteLimits (form : ℕ) (ts : List ℕ) (c : ℕ) : Type 0 where
  pub under : FiniteUnder form (length ts) (sum_of ts) (squares_of ts) c
  pub given : limit_of form ts c ≡ limited (figures_of form (length ts) (sum_of ts) (squares_of ts) c)

-- of a list of times and a share w: both ends of the band are finite, and they are what the band gives
pub record FiniteBand (ts : List ℕ) (w : ℕ) : Type 0 where
  pub low : T (finite (ends_of (length ts) (sum_of ts) (squares_of ts) w).low)
  pub high : T (finite (ends_of (length ts) (sum_of ts) (squares_of ts) w).high)
  pub given : band_of ts w ≡ banded (ends_of (length ts) (sum_of ts) (squares_of ts) w)

-- ---- sizes, in ticks

-- the root of 2 ^ 39, rounded up: half of 1,048,575, times the root of 2 for two times under the sample divisor
abbrev pub max_spread : ℕ
max_spread = 741_456

-- 2 ^ 20 + 4 × 1.4142135623730951 × maxSpread, rounded up
abbrev pub max_limit : ℕ
max_limit = 5_242_885

-- under a form, for n times with sum s and sum of squares q, at the chance c
pub record SmallUnder (form n s q c : ℕ) : Type 0 where
  pub mean : SizeAtMost (mean_of n s) (2 ^ 20)
  pub spread : SizeAtMost (spread_of form n s q) max_spread
  pub quantile : SizeAtMost (quantile_of c) 4
  pub limit : SizeAtMost (formula_of form n s q c) max_limit

-- both ends of the band of n times with sum s and sum of squares q, at the share w
pub record SmallBand (n s q w : ℕ) : Type 0 where
  pub low : SizeAtMost (ends_of n s q w).low max_limit
  pub high : SizeAtMost (ends_of n s q w).high max_limit
