-- Request 2026-05: the pair that `from_exact_mult` gives is exactly the product of its factors, for factors that are zero or between
-- 2 ^ -400 and 2 ^ 400 in size. Such a factor is a number of 53 digits, or zero, times a power of two; the product's unit is then far
-- from both ends of the doubles' range, and Dekker's argument holds. Assumes nothing.
use mathlib.Core.Path.{◌≡◌, refl, sym, ap, ◌∙◌, subst}
use mathlib.Core.Logic.{◌⊎◌, inl, inr}
use mathlib.Core.Bool.{Bool, true, false, ◌&&◌}
use Prim.Native.Nat.{ℕ, ◌+◌, ◌-◌, ◌*◌, ◌^◌, ◌≤◌, ◌<◌}
use native.Mathlib.Nat.{le_of_eq, le_trans, lt_of_le_of_lt, le_of_mul-le-mul_right, lt_of_mul-lt-mul_right, zero-mul}
use native.Mathlib.Omega.{arith}
use lib.Dec.{T, leb, eqb, leb→le, eqb→eq, lit<}
use lib.Pow.{pow-add, pow_pos}
use lib.Ieee.{Float, nan, inf, fin, binary64, unlike, size, fits}
use lib.Ieee.Digits.{size-lt, size-le, size_reaches}
use lib.Ieee.Exact.{HasValue}
use lib.Ieee.Fits.{and_l, and_r}
use Rattle.facts.proofs.Tests.{either}
use Rattle.double_bits.proofs.Digits.{size_above}
use Rattle.pxfm.specs.DoubleDouble.{from_exact_mult}
use Rattle.pxfm.proofs.Units.{in_units, units_multiple}
use Rattle.law_exact.specs.Scaled.{scale, size_of}
use Rattle.law_exact.specs.Dekker.{least_power, most_power, in_range, ExactProduct, DekkerSteps}
use Rattle.law_exact.proofs.Signed.{Signed}
use Rattle.law_exact.proofs.Dekker.{Significand, Parts, product_parts}
use Rattle.law_exact.proofs.Integers.{size_of_value}
use Rattle.law_exact.proofs.Lossless.{finite_signed, signed_scaled, sum_apart, product_apart, units_product}

-- ---- a factor

-- x has the significand a, or is zero, in units of 2 ^ (j - 1074).
record Factor (x : Float) : Type 0 where
  s : Bool
  a : ℕ
  j : ℕ
  digits : Significand a
  from : 600 ≤ j
  to : j ≤ 1450
  val : Signed s x a 0 j

signed_value : (x : Float) (s : Bool) (a j : ℕ) → HasValue x s (a * 2 ^ j) (2 ^ 1074) → Signed s x a 0 j
signed_value x false a j h = record { is = record { sign = false; mag = a; val = h; gap = omega arith } }
signed_value x true a j h = record { is = record { sign = true; mag = a; val = h; gap = omega arith } }

factor_zero : (x : Float) (s : Bool) → HasValue x s 0 (2 ^ 1074) → Factor x
factor_zero x s h =
    record {
      s = s;
      a = 0;
      j = 1000;
      digits = inl refl;
      from = omega arith;
      to = omega arith;
      val = signed_value x s 0 1000 (subst (λ (z : ℕ). HasValue x s z (2 ^ 1074)) (sym (zero-mul (2 ^ 1000))) h);
    }

factor_digits : (x : Float) (s : Bool) (n : ℕ) → T (fits binary64 x) → HasValue x s n (2 ^ 1074) → 674 < size n → size n ≤ 1475 → Factor x
factor_digits x s n f h lo hi =
    let k = size n - 53 in
    let reach : 2 ^ (52 + k) ≤ n = size_reaches n (52 + k) (omega arith) in
    let q = units_multiple k x s n f h reach in
    let e : size n ≡ 53 + k = omega arith in
    let from : 2 ^ 52 * 2 ^ k ≤ q.0 * 2 ^ k = le_trans (le_of_eq (sym (pow-add 2 52 k))) (le_trans reach (le_of_eq q.1)) in
    let to : q.0 * 2 ^ k < 2 ^ 53 * 2 ^ k =
    subst (λ (z : ℕ). q.0 * 2 ^ k < z) (ap (λ (z : ℕ). 2 ^ z) e ∙ pow-add 2 53 k) (lt_of_le_of_lt (le_of_eq (sym q.1)) (size-lt n)) in
    record {
      s = s;
      a = q.0;
      j = k;
      digits = inr (le_of_mul-le-mul_right from (pow_pos k), lt_of_mul-lt-mul_right (2 ^ k) to);
      from = omega (arith, lo);
      to = omega (arith, hi);
      val = signed_value x s q.0 k (subst (λ (z : ℕ). HasValue x s z (2 ^ 1074)) q.1 h);
    }

factor : (x : Float) → T (fits binary64 x) → T (in_range x) → Factor x
unfolding in_range
factor nan f h = absurd h
factor (inf s) f h = absurd h
factor (fin s m e) f h =
    let u = in_units s m e f in
    go (either (eqb n 0) (least && most) h) (size_of_value (fin s m e) s (m * 2 ^ u.w) u.val) u.val
  where
    n : ℕ
    n = size_of (fin s m e)

    least : Bool
    least = leb (2 ^ least_power) n

    most : Bool
    most = leb n (2 ^ most_power)

    go : {a : ℕ} → T (eqb n 0) ⊎ T (least && most) → n ≡ a → HasValue (fin s m e) s a (2 ^ 1074) → Factor (fin s m e)
    go (inl z) q v = factor_zero (fin s m e) s (rw (sym q ∙ eqb→eq n 0 z) at v)
    go {a = a} (inr b) q v =
        let w = rw (← q) at v in
        factor_digits (fin s m e) s n f w (omega (arith, size_above least_power n (leb→le (2 ^ least_power) n (and_l least most b))))
        (size-le n 1475 (lt_of_le_of_lt (leb→le n (2 ^ most_power) (and_r least most b)) (lit< tt)))

-- ---- the product

-- m * n times u * w is m * n - c and c times g * l
sum_units : (m n c u w g l : ℕ) → u * w ≡ g * l
    → m * u * (n * w) + 0 * u * (0 * w) + (c * g + 0 * g) * l ≡ (m * n * g + c * g) * l + (m * u * (0 * w) + 0 * u * (n * w))
sum_units m n c u w g l e = omega (arith, ap (λ (z : ℕ). m * n * z) e)

module _ {a b : Float} {s t : Bool} {m n i k j : ℕ} (e : i + k ≡ j + 1074) (v : Signed s a m 0 i) (w : Signed t b n 0 k)
    (p : Parts a b (unlike s t) (m * n) j) where
  parts_exact : ExactProduct a b (from_exact_mult a b)
  parts_exact =
      record {
        low_finite = finite_signed p.low_part;
        high_finite = finite_signed p.high_part;
        exact =
            product_apart scale (signed_scaled v) (signed_scaled w) (sum_apart (signed_scaled p.low_part) (signed_scaled p.high_part))
            (sum_units m n (2 ^ 52 * p.c) (2 ^ i) (2 ^ k) (2 ^ j) scale (units_product i k j e));
      }

-- ---- the request

-- The factors' numbers, and the parts of their product.
record Both (a b : Float) : Type 0 where
  exact : ExactProduct a b (from_exact_mult a b)
  steps : DekkerSteps a b

both : {a b : Float} → Factor a → Factor b → Both a b
both x y =
    let j = x.j + y.j - 1074 in
    let r = x.from in
    let r' = y.from in
    let q = x.to in
    let q' = y.to in
    let e : x.j + y.j ≡ j + 1074 = omega arith in
    let p = product_parts j (omega arith) x.digits y.digits x.val y.val in
    record { exact = parts_exact e x.val y.val p; steps = p.steps }

module _ (a b : Float) (f : T (fits binary64 a)) (g : T (fits binary64 b)) (h : T (in_range a)) (k : T (in_range b)) where
  -- Low part plus high part is exactly the product.
  pub exact_product : ExactProduct a b (from_exact_mult a b)
  exact_product = (both (factor a f h) (factor b g k)).exact

  -- On the way: both splittings are exact, and so is every product of halves, the difference and every sum.
  pub dekker_steps : DekkerSteps a b
  dekker_steps = (both (factor a f h) (factor b g k)).steps
