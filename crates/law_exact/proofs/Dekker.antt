-- Dekker's product: every operation after the first is exact, so the low part is what the high part lacks. The halves' products
-- are whole numbers of few digits, and so is each sum on the way, by the bounds in `Numbers`. Assumes nothing.
use mathlib.Core.Path.{◌≡◌, refl, ap, ◌∙◌}
use mathlib.Core.Logic.{◌⊎◌, inl, inr}
use mathlib.Core.Bool.{Bool, true, false, not}
use Prim.Native.Nat.{ℕ, ◌+◌, ◌-◌, ◌*◌, ◌^◌, ◌≤◌, ◌<◌}
use native.Mathlib.Nat.{mul-le-mul, mul-le-mul_left, mul-le-mul_right, zero-mul, mul-zero}
use native.Mathlib.Omega.{arith}
use lib.Dec.{T, ltb, ltb→lt, nltb→le}
use lib.Ieee.{Float, binary64, unlike, mul}
use Rattle.pxfm.specs.declared.double_double.DoubleDouble.{DoubleDouble}
use Rattle.pxfm.specs.DoubleDouble.{split_of, from_exact_mult}
use Rattle.law_exact.specs.Dekker.{first, second, third, low_part, ExactSteps, DekkerSteps}
use Rattle.law_exact.proofs.Signed.{Signed, SignedRounds, signed_same, add_signed, sub_signed, mul_signed, exact_signed}
use Rattle.law_exact.proofs.Multiple.{multiple}
use Rattle.law_exact.proofs.Lossless.{sum_lossless, difference_lossless, mul_lossless}
use Rattle.law_exact.proofs.Halves.{Halves, split_halves, zero_halves, split_exact}

-- Zero, or a number of 53 digits.
abbrev pub Significand : ℕ → Type 0
Significand a = (a ≡ 0) ⊎ ((2 ^ 52 ≤ a) × (a < 2 ^ 53))

below : (a : ℕ) → Significand a → a < 2 ^ 53
below a (inl h) = omega arith
below a (inr h) = h.1

-- ---- the rounded product is 2 ^ 52 * c

record High (x : Float) (s : Bool) (m j : ℕ) : Type 0 where
  c : ℕ
  val : Signed s x (2 ^ 52 * c) 0 j
  over : 2 ^ 52 * c ≤ m + 2 ^ 52
  under : m ≤ 2 ^ 52 * c + 2 ^ 52

full_high : {x : Float} {s : Bool} {p n j : ℕ} (m : ℕ) → j ≤ 1900 → 2 ^ 104 ≤ m → m < 2 ^ 106 → m + n ≡ p → SignedRounds s x p n j → High x s m j
full_high {x = x} {s = s} {j = j} m J from to e v = go (ltb m (2 ^ 105)) (ltb→lt m (2 ^ 105)) (nltb→le m (2 ^ 105))
  where
    go : (b : Bool) → (T b → m < 2 ^ 105) → (T (not b) → 2 ^ 105 ≤ m) → High x s m j
    go true h k =
        let h' = h tt in
        let t = multiple v m 52 (omega arith) in
        record { c = t.c; val = t.val; over = omega (arith, t.over); under = omega (arith, t.under) }
    go false h k =
        let k' = k tt in
        let t = multiple v m 53 (omega arith) in
        record {
          c = 2 * t.c;
          val = signed_same (2 ^ 52 * (2 * t.c)) 0 (omega arith) t.val;
          over = omega (arith, t.over);
          under = omega (arith, t.under);
        }

product_lt : (a b : ℕ) → a < 2 ^ 53 → b < 2 ^ 53 → a * b < 2 ^ 106
product_lt a b h k =
    let h' : a ≤ 2 ^ 53 - 1 = omega arith in
    let k' : b ≤ 2 ^ 53 - 1 = omega arith in
    omega (arith, mul-le-mul h' k')

zero_high : {x : Float} {s : Bool} {p n j : ℕ} (m : ℕ) → j ≤ 1900 → m ≡ 0 → m + n ≡ p → SignedRounds s x p n j → High x s m j
zero_high m J z e v =
    record { c = 0; val = signed_same (2 ^ 52 * 0) 0 (omega arith) (exact_signed v 0 0 0 (omega arith)); over = omega arith; under = omega arith }

high : {x : Float} {s : Bool} {p n j : ℕ} (a b : ℕ) → j ≤ 1900 → Significand a → Significand b → a * b + n ≡ p → SignedRounds s x p n j
    → High x s (a * b) j
high a b J (inl h) k e v = zero_high (a * b) J (rw h (zero-mul b)) e v
high a b J (inr h) (inl k) e v = zero_high (a * b) J (rw k (mul-zero a)) e v
high a b J (inr h) (inr k) e v = full_high (a * b) J (mul-le-mul h.0 k.0) (product_lt a b h.1 k.1) e v

-- ---- the numbers: a = 2 ^ 27 * h + r - 2 ^ 26 and b = 2 ^ 27 * g + q - 2 ^ 26; a product is named by its factors

record Numbers (a b h g r q ab hg hq rg rq c : ℕ) : Type 0 where
  a_lt : a < 2 ^ 53
  b_lt : b < 2 ^ 53
  a_is : a + 2 ^ 26 ≡ 2 ^ 27 * h + r
  b_is : b + 2 ^ 26 ≡ 2 ^ 27 * g + q
  r_le : r ≤ 2 ^ 27
  q_le : q ≤ 2 ^ 27
  whole : ab + 2 ^ 26 * a + 2 ^ 26 * b + 2 ^ 52 ≡ 2 ^ 54 * hg + 2 ^ 27 * hq + 2 ^ 27 * rg + rq
  hg_le : hg ≤ 2 ^ 52
  hq_le : hq ≤ 2 ^ 27 * h
  rg_le : rg ≤ 2 ^ 27 * g
  rq_r : rq ≤ 2 ^ 27 * r
  rq_q : rq ≤ 2 ^ 27 * q
  rq_ge : 2 ^ 27 * r + 2 ^ 27 * q ≤ rq + 2 ^ 54
  over : 2 ^ 52 * c ≤ ab + 2 ^ 52
  under : ab ≤ 2 ^ 52 * c + 2 ^ 52

-- (2 ^ 27 - r) * (2 ^ 27 - q) is not negative.
corner : (r q u w : ℕ) → r + u ≡ 2 ^ 27 → q + w ≡ 2 ^ 27 → 2 ^ 27 * r + 2 ^ 27 * q ≤ r * q + 2 ^ 54
corner r q u w h k = omega (arith, ap (λ (z : ℕ). z * q) h, ap (λ (z : ℕ). u * z) k)

expand : (a b h g r q : ℕ) → a + 2 ^ 26 ≡ 2 ^ 27 * h + r → b + 2 ^ 26 ≡ 2 ^ 27 * g + q
    → a * b + 2 ^ 26 * a + 2 ^ 26 * b + 2 ^ 52 ≡ 2 ^ 54 * (h * g) + 2 ^ 27 * (h * q) + 2 ^ 27 * (r * g) + r * q
expand a b h g r q e e' = omega (arith, ap (λ (z : ℕ). z * (b + 2 ^ 26)) e ∙ ap (λ (z : ℕ). (2 ^ 27 * h + r) * z) e')

numbers : {d d' : DoubleDouble} {v : Float} {s t w : Bool} {a b i k j : ℕ} (X : Halves d s a i) (Y : Halves d' t b k) (Z : High v w (a * b) j)
    → a < 2 ^ 53 → b < 2 ^ 53
    → Numbers a b X.h Y.h X.r Y.r (a * b) (X.h * Y.h) (X.h * Y.r) (X.r * Y.h) (X.r * Y.r) Z.c
numbers {a = a} {b = b} X Y Z al bl =
    let hl : X.h ≤ 2 ^ 26 = omega (arith, X.sum) in
    let gl : Y.h ≤ 2 ^ 26 = omega (arith, Y.sum) in
    record {
      a_lt = al;
      b_lt = bl;
      a_is = X.sum;
      b_is = Y.sum;
      r_le = X.small;
      q_le = Y.small;
      whole = expand a b X.h Y.h X.r Y.r X.sum Y.sum;
      hg_le = mul-le-mul hl gl;
      hq_le = omega (arith, mul-le-mul_left X.h Y.small);
      rg_le = omega (arith, mul-le-mul_right Y.h X.small);
      rq_r = omega (arith, mul-le-mul_left X.r Y.small);
      rq_q = omega (arith, mul-le-mul_right Y.r X.small);
      rq_ge = corner X.r Y.r (2 ^ 27 - X.r) (2 ^ 27 - Y.r) (omega (arith, X.small)) (omega (arith, Y.small));
      over = Z.over;
      under = Z.under;
    }

-- ---- the operations

module _ {u v : DoubleDouble} {hi : Float} {s t : Bool} {a b h g r q c i k j : ℕ} (J : j ≤ 1900) (e : i + k ≡ j + 1074)
    (n : Numbers a b h g r q (a * b) (h * g) (h * q) (r * g) (r * q) c)
    (x : Signed s u.hi (2 ^ 27 * h) 0 i) (x' : Signed s u.lo r (2 ^ 26) i)
    (y : Signed t v.hi (2 ^ 27 * g) 0 k) (y' : Signed t v.lo q (2 ^ 26) k)
    (z : Signed (unlike s t) hi (2 ^ 52 * c) 0 j) where
  -- the four products
  hh : Signed (unlike s t) (mul binary64 u.hi v.hi) (2 ^ 54 * (h * g)) (2 ^ 54 * 0) j
  hh = exact_signed (mul_signed j e x y) 54 (h * g) 0 (omega arith)

  hl : Signed (unlike s t) (mul binary64 u.hi v.lo) (2 ^ 27 * (h * q)) (2 ^ 27 * (2 ^ 26 * h)) j
  hl = exact_signed (mul_signed j e x y') 27 (h * q) (2 ^ 26 * h) (omega arith)

  lh : Signed (unlike s t) (mul binary64 u.lo v.hi) (2 ^ 27 * (r * g)) (2 ^ 27 * (2 ^ 26 * g)) j
  lh = exact_signed (mul_signed j e x' y) 27 (r * g) (2 ^ 26 * g) (omega arith)

  ll : Signed (unlike s t) (mul binary64 u.lo v.lo) (2 ^ 0 * (r * q + 2 ^ 52)) (2 ^ 0 * (2 ^ 26 * r + 2 ^ 26 * q)) j
  ll = exact_signed (mul_signed j e x' y') 0 (r * q + 2 ^ 52) (2 ^ 26 * r + 2 ^ 26 * q) (omega arith)

  -- the four sums
  t1 : Signed (unlike s t) (first u v hi) (2 ^ 52 * (4 * (h * g))) (2 ^ 52 * c) j
  t1 = exact_signed (sub_signed hh z) 52 (4 * (h * g)) c (omega arith)

  t2 : Signed (unlike s t) (second u v hi) (2 ^ 27 * (h * q + 2 ^ 27 * (h * g))) (2 ^ 27 * (2 ^ 26 * h + 2 ^ 25 * c)) j
  t2 = exact_signed (add_signed hl t1) 27 (h * q + 2 ^ 27 * (h * g)) (2 ^ 26 * h + 2 ^ 25 * c) (omega arith)

  t3 : Signed (unlike s t) (third u v hi) (2 ^ 27 * (r * g + (h * q + 2 ^ 27 * (h * g)))) (2 ^ 27 * (2 ^ 26 * g + (2 ^ 26 * h + 2 ^ 25 * c))) j
  t3 = exact_signed (add_signed lh t2) 27 (r * g + (h * q + 2 ^ 27 * (h * g))) (2 ^ 26 * g + (2 ^ 26 * h + 2 ^ 25 * c)) (omega arith)

  low_exact : Signed (unlike s t) (low_part u v hi) (a * b) (2 ^ 52 * c) j
  low_exact = signed_same (a * b) (2 ^ 52 * c) (omega arith) (exact_signed (add_signed ll t3) 0 (a * b) (2 ^ 52 * c) (omega arith))

  steps_exact : ExactSteps u v hi
  steps_exact =
      record {
        high_high = mul_lossless e x y hh (omega arith);
        high_low = mul_lossless e x y' hl (omega arith);
        low_high = mul_lossless e x' y lh (omega arith);
        low_low = mul_lossless e x' y' ll (omega arith);
        first_exact = difference_lossless hh z t1 (omega arith);
        second_exact = sum_lossless hl t1 t2 (omega arith);
        third_exact = sum_lossless lh t2 t3 (omega arith);
        last_exact = sum_lossless ll t3 low_exact (omega arith);
      }

-- ---- the whole product

-- The parts of the product of x and y, whose size is m.
pub record Parts (x y : Float) (s : Bool) (m j : ℕ) : Type 0 where
  pub c : ℕ
  pub high_part : Signed s (from_exact_mult x y).hi (2 ^ 52 * c) 0 j
  pub low_part : Signed s (from_exact_mult x y).lo m (2 ^ 52 * c) j
  pub steps : DekkerSteps x y

halves : {x : Float} {s : Bool} {a j : ℕ} → j ≤ 1900 → Significand a → Signed s x a 0 j → Halves (split_of x) s a j
halves J (inl h) v = rw h (zero_halves J (rw h at v))
halves J (inr h) v = split_halves J h.0 h.1 v

pub product_parts : {x y : Float} {s t : Bool} {a b i k : ℕ} (j : ℕ) → (i ≤ 1900) × (k ≤ 1900) × (j ≤ 1900) × (i + k ≡ j + 1074)
    → Significand a → Significand b → Signed s x a 0 i → Signed t y b 0 k → Parts x y (unlike s t) (a * b) j
unfolding from_exact_mult
product_parts {a = a} {b = b} j r fa fb v w =
    let X = halves r.0 fa v in
    let Y = halves r.1 fb w in
    let Z = high a b r.2 fa fb (omega arith) (mul_signed j r.3 v w) in
    let n = numbers X Y Z (below a fa) (below b fb) in
    record {
      c = Z.c;
      high_part = Z.val;
      low_part = low_exact r.2 r.3 n X.high X.low Y.high Y.low Z.val;
      steps =
          record {
            split_a = split_exact (below a fa) v X;
            split_b = split_exact (below b fb) w Y;
            high_part = refl;
            low_part = refl;
            steps = steps_exact r.2 r.3 n X.high X.low Y.high Y.low Z.val;
          };
    }
