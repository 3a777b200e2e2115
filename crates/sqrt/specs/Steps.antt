-- What the steps of the root promise each other: the scaled significand, and its whole root with the remainder. Definitions only.
-- The code takes the root of q * 2 ^ 54 for a q of 53 or 54 binary digits, and leaves a power of four to the rounding.
use Rattle.std.specs.Prelude.{◌≡◌, ℕ, ◌+◌, ◌*◌, ◌%◌, ◌^◌, ◌<◌, ◌≤◌, Float}
use Rattle.std.specs.Float.{binary64}
use Rattle.std.specs.Float.Ieee.{size}
use Rattle.sqrt.specs.Sqrt.{radicand, round_root, sqrt_of}

-- n is q * 2 ^ 54 * 4 ^ z, with a q of 53 or 54 binary digits
pub record IsScaled (n q z : ℕ) : Type 0 where
  pub same : n ≡ q * 2 ^ 54 * 4 ^ z
  pub q_ge : 2 ^ 52 ≤ q
  pub q_lt : q < 2 ^ 54
  pub z_lt : z < 2000

-- s is the whole root of n, and r the remainder
pub record IsRest (n s r : ℕ) : Type 0 where
  pub sum : n ≡ s * s + r
  pub small : r ≤ 2 * s

-- the first half of a guess at the root: t - 16 is what is left of q * 2 ^ 10 when the square of g is taken off
pub record IsFirst (q g t : ℕ) : Type 0 where
  pub sum : t + g * g ≡ q * 2 ^ 10 + 16
  pub g_pos : 0 < g
  pub g_lt : g < 2 ^ 32
  pub t_lt : t < 2 ^ 36

-- The middle step: s is the whole root of the scaled significand q * 2 ^ 54, and r the remainder. Its square is at most that number, and its
-- successor's is above; it has 53 binary digits or more, in fact 54, one more than a double keeps.
pub record IsWhole (q s r : ℕ) : Type 0 where
  pub digits : 53 ≤ size s
  pub square : s * s ≤ q * 2 ^ 54
  pub successor : q * 2 ^ 54 < (s + 1) * (s + 1)
  pub rest : IsRest (q * 2 ^ 54) s r
  pub s_ge : 2 ^ 53 ≤ s
  pub s_lt : s < 2 ^ 54

-- The rounding of a whole root with the remainder r, whose last digit d is dropped: c is added to the digits kept. The digit is worth a half of the
-- last one kept, and a remainder makes it more. To nearest; in a tie, half and nothing more, to the even one.
pub record Carried (kept d r c : ℕ) : Type 0 where
  pub below_half : d ≡ 0 → c ≡ 0
  pub above_half : d ≡ 1 → 0 < r → c ≡ 1
  pub half : d ≡ 1 → r ≡ 0 → c ≡ kept % 2

-- The root of x, above zero and finite, in the standard's sequence (request 2026-02): x scaled, its whole root with the remainder, and one rounding
-- from these two: `round_root` is one `round`, and of the remainder it takes only whether it is 0.
pub record RootSteps (x : Float) : Type 0 where
  pub q : ℕ
  pub z : ℕ
  pub s : ℕ
  pub r : ℕ
  pub scaled : IsScaled (radicand binary64 x) q z
  pub whole : IsWhole q s r
  pub once : sqrt_of x ≡ round_root binary64 s r z
  pub no_tie : s % 2 ≡ 1 → 0 < r
