-- A fraction whose denominator is a power of two, in lowest terms. Definitions only.
use Rattle.std.specs.Prelude.{ℕ, ◌*◌, ◌%◌, ◌^◌, ◌<◌, ◌≡◌, Float}
use Rattle.std.specs.Float.Ieee.Positive.{num}
use Rattle.text_decimal.specs.Decimal.{places_behind}

-- n / 2 ^ j is m / 2 ^ k, in lowest terms
pub record IsLowest (m k n j : ℕ) : Type 0 where
  pub same : n * 2 ^ k ≡ m * 2 ^ j
  pub odd : 0 < j → n % 2 ≡ 1

-- the size of x is n / 2 ^ j, in lowest terms
pub record IsSize (x : Float) (n j : ℕ) : Type 0 where
  pub upper : n ≡ num x
  pub lower : j ≡ places_behind x
