-- The special operands: what the test 0 < x says of x, and what a pattern from the infinity's up stands for.
-- A zero is its own root, the infinity too, and below zero there is none. Assumes nothing.
use Rattle.std.proofs.Common.{◌≡◌, ℕ, zero, suc, ◌+◌, ◌*◌, ◌/◌, ◌%◌, ◌^◌, ◌<◌, ◌≤◌, Bool, true, false, cond, not, ◌&&◌, ◌||◌, T, eqb, leb, ◌⊎◌, ℤ, sym, refl, ap, ◌∙◌, subst, inl, inr, true≢false, zero-lt-suc, mul-pos, lt_of_not-le, zero-mul, arith, lt→ltb, ltb-true, lt-ltb, eq-eqb, eqb-true, le-leb}
use mathlib.Core.Bool.{beq}
use native.Mathlib.Decide.{dec_le}
use borrow.Author.Tests.{lt-leb}
use lib.Ieee.{Float, nan, inf, fin, binary64, up, down, is_nan, odd, of_fields, of_bits, to_bits, fits, lt, eq, div}
use lib.Ieee.Bits.{of_bits-to_bits, to_bits-lt}
use lib.Ieee.Exact.{HasValue, odd_sign}
use lib.Ieee.Fits.{up_pos}
use lib.Ieee.Positive.{positive}
use Rattle.sqrt.specs.Sqrt.{radicand, round_sqrt, sqrt_in, sqrt_of}

-- ---- products with a factor 0, and others

none_left : (a b : ℕ) → 0 * a * b ≡ 0
none_left a b = ap (λ (x : ℕ). x * b) (zero-mul a) ∙ zero-mul b

some_left : (m : ℕ) (e : ℤ) → 0 < suc m * up e * 1
some_left m e = mul-pos (mul-pos (zero-lt-suc m) (up_pos e)) (zero-lt-suc 0)

-- ---- the test 0 < x

lt_zero : (m : ℕ) (e : ℤ) → lt (of_bits binary64 0) (fin false (suc m) e) ≡ true
unfolding lt of_bits
lt_zero m e =
    let a = none_left 1 (down e) in
    let b = some_left m e in
    lt-ltb (0 * 1 * down e) (suc m * up e * 1) (omega arith)

pub positive_above : (x : Float) → T (positive x) → lt (of_bits binary64 0) x ≡ true
positive_above nan p = absurd p
positive_above (inf s) p = absurd p
positive_above (fin true m e) p = absurd p
positive_above (fin false zero e) p = absurd p
positive_above (fin false (suc m) e) p = lt_zero m e

-- an x above 0 is a positive finite value, or the infinity
pub above_zero : (x : Float) → lt (of_bits binary64 0) x ≡ true → T (positive x) ⊎ (x ≡ inf false)
unfolding lt of_bits
above_zero nan h = absurd (true≢false (sym h))
above_zero (inf true) h = absurd (true≢false (sym h))
above_zero (inf false) h = inr refl
above_zero (fin true m e) h = absurd (true≢false (sym h))
above_zero (fin false zero e) h =
    let a = none_left (up e) 1 in
    let l = ltb-true (0 * 1 * down e) (0 * up e * 1) h in
    absurd (omega arith)
above_zero (fin false (suc m) e) h = inl (lt→ltb 0 (suc m) (zero-lt-suc m))

pub above_zero_plain : (x : Float) → lt (of_bits binary64 0) x ≡ true → T (not (is_nan x))
unfolding lt of_bits is_nan
above_zero_plain nan h = absurd (true≢false (sym h))
above_zero_plain (inf s) h = tt
above_zero_plain (fin s m e) h = tt

-- ---- an x that is not above 0: a zero is its own root, and the others have none

pub zero_root : (x : Float) → eq x (of_bits binary64 0) ≡ true → x ≡ sqrt_of x
unfolding eq of_bits sqrt_in
zero_root nan h = absurd (true≢false (sym h))
zero_root (inf s) h = absurd (true≢false (sym h))
zero_root (fin s zero e) h = refl
zero_root (fin s (suc m) e) h =
    let a = some_left m e in
    let b = none_left 1 (down e) in
    let l = eqb-true (suc m * up e * 1) (0 * 1 * down e) (left (eqb (suc m * up e * 1) (0 * 1 * down e)) (beq s false || eqb (suc m * up e * 1) 0) h) in
    absurd (omega arith)
  where
    left : (a b : Bool) → a && b ≡ true → a ≡ true
    left true b h = refl
    left false b h = h

infinity_above : lt (of_bits binary64 0) (inf false) ≡ true
unfolding lt of_bits
infinity_above = refl

zero_equal : (s : Bool) (e : ℤ) → eq (fin s zero e) (of_bits binary64 0) ≡ true
unfolding eq of_bits
zero_equal s e =
    let a = none_left (up e) 1 in
    let b = none_left 1 (down e) in
    both (eqb (0 * up e * 1) (0 * 1 * down e)) (beq s false) (eqb (0 * up e * 1) 0) (eq-eqb (0 * up e * 1) (0 * 1 * down e) (a ∙ sym b))
    (eq-eqb (0 * up e * 1) 0 a)
  where
    both : (a b c : Bool) → a ≡ true → c ≡ true → a && (b || c) ≡ true
    both true true c h k = refl
    both true false c h k = k
    both false b c h k = h

no_root : (x : Float) → lt (of_bits binary64 0) x ≡ false → eq x (of_bits binary64 0) ≡ false → sqrt_of x ≡ nan
unfolding sqrt_in
no_root nan l h = refl
no_root (inf true) l h = refl
no_root (inf false) l h = absurd (true≢false (sym infinity_above ∙ l))
no_root (fin s zero e) l h = absurd (true≢false (sym (zero_equal s e) ∙ h))
no_root (fin true (suc m) e) l h = refl
no_root (fin false (suc m) e) l h = absurd (true≢false (sym (lt_zero m e) ∙ l))

zero_by_zero : div binary64 (of_bits binary64 0) (of_bits binary64 0) ≡ nan
unfolding div of_bits
zero_by_zero = refl

pub nan_root : (x : Float) → lt (of_bits binary64 0) x ≡ false → eq x (of_bits binary64 0) ≡ false
    → div binary64 (of_bits binary64 0) (of_bits binary64 0) ≡ sqrt_of x
nan_root x l h = zero_by_zero ∙ sym (no_root x l h)

-- ---- an x above 0, by its pattern

-- a pattern from the infinity's up is that of no positive finite value
signed_odd : (q k : ℕ) → T (positive (odd 53 true q k 1074)) → ⊥
signed_odd q k = go (odd 53 true q k 1074) (odd_sign 53 true q k 1074)
  where
    go : (x : Float) → HasValue x true (q * 2 ^ k) (2 ^ 1074) → T (positive x) → ⊥
    go nan v p = p
    go (inf s) v p = p
    go (fin true m e) v p = p
    go (fin false m e) v p = true≢false (sym v.0)

signed_fields : (e t : ℕ) → T (positive (of_fields binary64 true e t)) → ⊥
unfolding of_fields
signed_fields zero t = signed_odd t 0
signed_fields (suc x) t = go (eqb (suc x) 2047) (eqb t 0)
  where
    go : (a b : Bool) → T (positive (cond a (cond b (inf true) nan) (odd 53 true (2 ^ 52 + t) x 1074))) → ⊥
    go true true p = p
    go true false p = p
    go false b p = signed_odd (2 ^ 52 + t) x p

top_fields : (t : ℕ) → T (positive (of_fields binary64 false 2047 t)) → ⊥
unfolding of_fields
top_fields t = go (eqb t 0)
  where
    go : (b : Bool) → T (positive (cond b (inf false) nan)) → ⊥
    go true p = p
    go false p = p

pattern_above : (b : ℕ) → 2047 * 2 ^ 52 ≤ b → b < 2 ^ 64 → T (positive (of_bits binary64 b)) → ⊥
unfolding of_bits
pattern_above b lo hi = go (dec_le (2 ^ 63) b)
  where
    go : Dec (2 ^ 63 ≤ b) → T (positive (of_fields binary64 (leb (2 ^ 63) b) (b % 2 ^ 63 / 2 ^ 52) (b % 2 ^ 52))) → ⊥
    go (yes l) p =
        signed_fields (b % 2 ^ 63 / 2 ^ 52) (b % 2 ^ 52)
        (subst (λ (s : Bool). T (positive (of_fields binary64 s (b % 2 ^ 63 / 2 ^ 52) (b % 2 ^ 52)))) (le-leb (2 ^ 63) b l) p)
    go (no n) p =
        let l = lt_of_not-le n in
        let e : b % 2 ^ 63 / 2 ^ 52 ≡ 2047 = omega arith in
        top_fields (b % 2 ^ 52)
        (subst (λ (x : ℕ). T (positive (of_fields binary64 false x (b % 2 ^ 52)))) e
        (subst (λ (s : Bool). T (positive (of_fields binary64 s (b % 2 ^ 63 / 2 ^ 52) (b % 2 ^ 52)))) (lt-leb (2 ^ 63) b l) p))

module _ (x : Float) (F : T (fits binary64 x)) (above : lt (of_bits binary64 0) x ≡ true) where
  back : of_bits binary64 (to_bits binary64 x) ≡ x
  back = of_bits-to_bits binary64 x F

  infinity_root : x ≡ inf false → x ≡ sqrt_of x
  unfolding sqrt_in
  infinity_root e = subst (λ (y : Float). y ≡ sqrt_of y) (sym e) refl

  infinity_bits : x ≡ inf false → to_bits binary64 x ≡ 2047 * 2 ^ 52
  unfolding to_bits
  infinity_bits e = ap (to_bits binary64) e

  -- the pattern of x is above 0
  pub bits_pos : 0 < to_bits binary64 x
  unfolding lt of_bits
  bits_pos = go (to_bits binary64 x) refl
    where
      go : (b : ℕ) → to_bits binary64 x ≡ b → 0 < b
      go zero e = absurd (true≢false (sym above ∙ ap (lt (of_bits binary64 0)) (sym back ∙ ap (of_bits binary64) e)))
      go (suc b) e = zero-lt-suc b

  -- an x with a pattern from the infinity's up is the infinity
  pub top_root : 2047 * 2 ^ 52 ≤ to_bits binary64 x → x ≡ sqrt_of x
  top_root h = go (above_zero x above)
    where
      go : T (positive x) ⊎ (x ≡ inf false) → x ≡ sqrt_of x
      go (inl p) = absurd (pattern_above (to_bits binary64 x) h (to_bits-lt binary64 x F) (subst (λ (y : Float). T (positive y)) (sym back) p))
      go (inr e) = infinity_root e

  -- and one with a pattern below that is rounded from the root of its scaled significand
  positive_root : (y : Float) → T (positive y) → sqrt_of y ≡ round_sqrt binary64 (radicand binary64 y)
  unfolding sqrt_in
  positive_root nan p = absurd p
  positive_root (inf s) p = absurd p
  positive_root (fin true m e) p = absurd p
  positive_root (fin false zero e) p = absurd p
  positive_root (fin false (suc m) e) p = refl

  pub finite_root : to_bits binary64 x < 2047 * 2 ^ 52 → sqrt_of x ≡ round_sqrt binary64 (radicand binary64 (of_bits binary64 (to_bits binary64 x)))
  finite_root h = go (above_zero x above)
    where
      go : T (positive x) ⊎ (x ≡ inf false) → sqrt_of x ≡ round_sqrt binary64 (radicand binary64 (of_bits binary64 (to_bits binary64 x)))
      go (inl p) = positive_root x p ∙ ap (λ (y : Float). round_sqrt binary64 (radicand binary64 y)) (sym back)
      go (inr e) = let k = infinity_bits e in absurd (omega arith)

-- a positive finite value has a pattern below the infinity's
pub positive_below : (x : Float) → T (fits binary64 x) → T (positive x) → to_bits binary64 x < 2047 * 2 ^ 52
positive_below x f p =
    lt_of_not-le
    (λ (h : 2047 * 2 ^ 52 ≤ to_bits binary64 x).
    pattern_above (to_bits binary64 x) h (to_bits-lt binary64 x f) (subst (λ (y : Float). T (positive y)) (sym (of_bits-to_bits binary64 x f)) p))
