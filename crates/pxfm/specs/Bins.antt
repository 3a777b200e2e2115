-- The rule of the table of reciprocals (document 01, src/logs/fast_log_dd.rs): r × t - 1 is below 1/128 in size.
-- Stated over fractions of whole numbers, so that it holds of every t of a bin and not of doubles alone.
use Rattle.std.specs.Prelude.{ℕ, ◌+◌, ◌*◌, ◌^◌, ◌<◌, ◌≤◌, cond, Float}
use Rattle.std.specs.Float.Ieee.Positive.{num, den}
use Rattle.pxfm.specs.FastLogDd.{halved}

-- n / d lies in the bin i: from (i + 181) / 256 up to (i + 182) / 256.
pub record InBin (i n d : ℕ) : Type 0 where
  pub from : (i + 181) * d ≤ 256 * n
  pub to : 256 * n < (i + 182) * d

-- r × n / d lies strictly between 127/128 and 129/128.
pub record NearOne (r : Float) (n d : ℕ) : Type 0 where
  pub above : 127 * (den r * d) < 128 * (num r * n)
  pub below : 128 * (num r * n) < 129 * (den r * d)

-- The reduced argument of the significand m is m over this.
abbrev pub unit_of : ℕ → ℕ
unit_of m = cond (halved m) (2 ^ 53) (2 ^ 52)

-- n / d lies from the root of 1/2 up to the root of 2: its square is at least 1/2 and below 2.
pub record AroundOne (n d : ℕ) : Type 0 where
  pub from : d * d ≤ 2 * (n * n)
  pub to : n * n < 2 * (d * d)
