-- What the roundings share: twice the size of a double, rounded down and up. Definitions only.
use Rattle.std.specs.Prelude.{ℕ, ◌*◌, ◌/◌, ◌^◌, ◌≤◌, ◌<◌, ◌≡◌, Float}
use Rattle.std.specs.Float.Ieee.Positive.{num, den}
use Rattle.text_ticks.specs.Ticks.{ceiling}

-- twice the size of x lies between the two, which are equal or neighbours; both are small
pub record IsHalves (x : Float) (down up : ℕ) : Type 0 where
  pub floor : down ≡ 2 * num x / den x
  pub ceil : up ≡ ceiling (2 * num x) (den x)
  pub order : down ≤ up
  pub few : up < 2 ^ 62
