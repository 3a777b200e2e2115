-- Every finite value with a minus sign is farther from the root of a positive finite x than the root that `sqrt_in` gives.
-- 0 is farther from it than r by `sqrt_nearest`, so r is below twice the root, and r + y is no more than r. Assumes nothing.
use Rattle.std.proofs.Common.{◌≡◌, ℕ, ◌+◌, ◌-◌, ◌*◌, ◌<◌, ◌≤◌, false, T, pos, ap, ◌∙◌, subst, mul-le-mul_right, mul_assoc, mul-le-mul, mul-lt-mul_of_pos_right, mul-pos, mul-one, mul_right_comm, arith}
use native.Mathlib.Nat.{mul-mul-mul_comm}
use lib.Ieee.{Float, fin, Format, fits}
use lib.Ieee.Positive.{num, den, den_pos, positive, own_value, value_pos}
use Rattle.sqrt.specs.Sqrt.{sqrt_in}
use Rattle.sqrt.specs.Nearest.{minus_signed, rest_num, Less, MidBelow, MidBelowMinus, NearestRoot}
use Rattle.sqrt.proofs.Nearest.{sqrt_nearest}

-- a / b is less than twice the root of n / d; then so is a part of it, over b * c
part_below : (a b c n d w : ℕ) → 0 < c → a * a * d < 4 * n * (b * b) → w ≤ a * c → w * w * d < 4 * n * (b * c * (b * c))
part_below a b c n d w C h l =
    let k : w * w * d ≤ a * c * (a * c) * d = mul-le-mul_right d (mul-le-mul l l) in
    let e : a * c * (a * c) * d ≡ a * a * d * (c * c) = ap (λ (z : ℕ). z * d) (mul-mul-mul_comm a c a c) ∙ mul_right_comm (a * a) (c * c) d in
    let g : a * a * d * (c * c) < 4 * n * (b * b) * (c * c) = mul-lt-mul_of_pos_right h (mul-pos C C) in
    let f : 4 * n * (b * b) * (c * c) ≡ 4 * n * (b * c * (b * c)) =
    mul_assoc (4 * n) (b * b) (c * c) ∙ ap (λ (z : ℕ). 4 * n * z) (mul-mul-mul_comm b b c c) in
    omega arith

abbrev plus_zero : Float
plus_zero = fin false 0 (pos 0)

module _ (f : Format) (x r : Float) (R : NearestRoot f x r) where
  -- r is less than twice the root
  below_twice : num r * num r * den x < 4 * num x * (den r * den r)
  below_twice =
      let h : MidBelow x r plus_zero = R.beside_smaller plus_zero zero_fits tt zero_less in
      let a : num r * 1 + 0 * den r ≡ num r = omega arith in
      let b : den r * 1 ≡ den r = mul-one (den r) in
      subst (λ (z : ℕ). num r * num r * den x < 4 * num x * (z * z)) b
      (subst (λ (z : ℕ). z * z * den x < 4 * num x * (den r * 1 * (den r * 1))) a h)
    where
      zero_fits : T (fits f plus_zero)
      zero_fits = unfold fits in tt

      zero_less : Less plus_zero r
      zero_less = let p = value_pos r (num r) (den r) R.above_zero (den_pos r) (own_value r R.above_zero) in omega arith

  pub nearest_negative : (y : Float) → MidBelowMinus x r y
  nearest_negative y =
      part_below (num r) (den r) (den y) (num x) (den x) (rest_num r y) (den_pos y) below_twice (rest_le (num r * den y) (num y * den r))
    where
      rest_le : (a b : ℕ) → a - b ≤ a
      rest_le a b = omega arith

-- for every positive finite x of the format f, and every finite y with a minus sign, y is farther from the root of x than r
pub sqrt_nearest_negative : (f : Format) (x y : Float) → T (fits f x) → T (positive x) → T (minus_signed y) → MidBelowMinus x (sqrt_in f x) y
sqrt_nearest_negative f x y F p s = nearest_negative f x (sqrt_in f x) (sqrt_nearest f x F p) y
