-- The first tests of `f_erfcinv` look at the bits of x, where the definition looks at its value (document 01, src/err/inverfc.rs). They say the same:
-- ±0 have the two patterns that doubled leave 0, 2 has one pattern, and the patterns below 2's are those of the numbers from +0 up to 2. Assumes nothing.
use Rattle.std.proofs.Common.{◌≡◌, ℕ, ◌+◌, ◌*◌, ◌/◌, ◌%◌, ◌^◌, ◌<◌, ◌≤◌, Bool, true, false, not, ◌&&◌, ◌||◌, T, eqb, ◌⊎◌, sym, refl, ap, ◌∙◌, inl, inr, true≢false, lt_irrefl, mod-eq_of_lt, mul-pos, lt_of_not-le, zero-mul, not-le_of_lt, arith, lit<, eqb-true}
use mathlib.Core.Bool.{beq}
use native.Mathlib.Decide.{dec_le}
use lib.Ieee.{Float, nan, inf, fin, binary64, up, down, is_nan, fits, of_bits, to_bits, level, eq, lt}
use lib.Ieee.Fits.{down_pos}
use lib.Ieee.Bits.{of_bits-to_bits, of_bits-fits, to_bits-lt}
use lib.Ieee.Back.{whole_unique}
use lib.Ieee.Exact.{HasValue}
use Rattle.facts.proofs.Tests.{refuted}
use Rattle.double_bits.proofs.Patterns.{value_unique}
use Rattle.pxfm.specs.DoubleDouble.{one, two}
use Rattle.pxfm.specs.Argument.{zero}
use Rattle.pxfm.specs.Inverfc.{outside}
use Rattle.pxfm.proofs.Value.{Val}
use Rattle.pxfm.proofs.Units.{in_units, val_whole, val_whole_negative}
use Rattle.pxfm.proofs.Order.{lt_of_val, val_of_lt, val_of_not_eq, lt_of_neither}
use Rattle.pxfm.proofs.Ranges.{zero_val}
use Rattle.pxfm.proofs.Bits.{BelowTwo, below_two_bits}

-- ---- what equals 0, 1 or 2

-- Numbers that compare as equal have the same size; and the same sign, where they are not 0.
level_size : (s t : Bool) (a b : ℕ) → level s a t b ≡ true → a ≡ b
level_size s t a b h = eqb-true a b (first (eqb a b) (beq s t || eqb a 0) h)
  where
    first : (p q : Bool) → p && q ≡ true → p ≡ true
    first true q h = refl
    first false q h = h

level_sign : (s : Bool) (a b : ℕ) → level s a false b ≡ true → 0 < b → s ≡ false
level_sign false a b h p = refl
level_sign true a b h p =
    let e = level_size true false a b h in
    let z = eqb-true a 0 (second (eqb a b) (eqb a 0) h) in
    absurd (omega arith)
  where
    second : (p q : Bool) → p && q ≡ true → q ≡ true
    second true q h = h
    second false q h = absurd (true≢false (sym h))

zero_units : (x : Float) → eq x zero ≡ true → (s : Bool) × HasValue x s 0 (2 ^ 1074)
unfolding eq of_bits
zero_units nan h = absurd (true≢false (sym h))
zero_units (inf s) h = absurd (true≢false (sym h))
zero_units (fin s m e) h = (s, (refl, none (m * up e) (down e) (2 ^ 1074) (level_size s false (m * up e * 1) (0 * 1 * down e) h)))
  where
    none : (a d l : ℕ) → a * 1 ≡ 0 * 1 * d → a * l ≡ 0 * d
    none a d l k = let z : a ≡ 0 = omega arith in ap (λ (n : ℕ). n * l) z ∙ zero-mul l ∙ sym (zero-mul d)

two_value : (x : Float) → eq x two ≡ true → HasValue x false 2 1
unfolding eq of_bits
two_value nan h = absurd (true≢false (sym h))
two_value (inf s) h = absurd (true≢false (sym h))
two_value (fin s m e) h =
    (level_sign s (m * up e * 1) (2 * down e) h (mul-pos (lit< tt) (down_pos e)), level_size s false (m * up e * 1) (2 * down e) h)

one_value : (x : Float) → eq x one ≡ true → HasValue x false 1 1
unfolding eq of_bits
one_value nan h = absurd (true≢false (sym h))
one_value (inf s) h = absurd (true≢false (sym h))
one_value (fin s m e) h =
    (level_sign s (m * up e * 1) (1 * down e) h (mul-pos (lit< tt) (down_pos e)), level_size s false (m * up e * 1) (1 * down e) h)

-- The double -0.
abbrev pub minus_zero : Float
minus_zero = of_bits binary64 (2 ^ 63)

zero_with : (s : Bool) → (y : Float) × (T (fits binary64 y) × (HasValue y s 0 (2 ^ 1074) × ((y ≡ zero) ⊎ (y ≡ minus_zero))))
unfolding of_bits
zero_with false = (zero, (of_bits-fits binary64 0, ((refl, refl), inl refl)))
zero_with true = (minus_zero, (of_bits-fits binary64 (2 ^ 63), ((refl, refl), inr refl)))

module _ (x : Float) (f : T (fits binary64 x)) where
  pub equals_zero : eq x zero ≡ true → (x ≡ zero) ⊎ (x ≡ minus_zero)
  equals_zero h =
      let u = zero_units x h in
      let y = zero_with u.0 in
      let e : x ≡ y.0 = value_unique binary64 x y.0 u.0 0 f y.1.0 u.1 y.1.1.0 in
      go y.0 e y.1.1.1
    where
      go : (y : Float) → x ≡ y → (y ≡ zero) ⊎ (y ≡ minus_zero) → (x ≡ zero) ⊎ (x ≡ minus_zero)
      go y e (inl k) = inl (e ∙ k)
      go y e (inr k) = inr (e ∙ k)

  pub equals_two : eq x two ≡ true → x ≡ two
  equals_two h = whole_unique binary64 x two false 2 f (of_bits-fits binary64 0x4000_0000_0000_0000) (two_value x h) itself
    where
      itself : HasValue two false 2 1
      itself = unfold of_bits in (refl, refl)

  pub equals_one : eq x one ≡ true → x ≡ one
  equals_one h = whole_unique binary64 x one false 1 f (of_bits-fits binary64 0x3ff0_0000_0000_0000) (one_value x h) itself
    where
      itself : HasValue one false 1 1
      itself = unfold of_bits in (refl, refl)

  -- A test that x passes and ±0 and 2 do not: x is neither.
  pub not_zero_by : (test : Float → Bool) → test zero ≡ false → test minus_zero ≡ false → test x ≡ true → eq x zero ≡ false
  not_zero_by test z m h = refuted (eq x zero) (λ e. go (equals_zero e))
    where
      go : (x ≡ zero) ⊎ (x ≡ minus_zero) → ⊥
      go (inl k) = true≢false (sym h ∙ ap test k ∙ z)
      go (inr k) = true≢false (sym h ∙ ap test k ∙ m)

  pub not_two_by : (test : Float → Bool) → test two ≡ false → test x ≡ true → eq x two ≡ false
  not_two_by test t h = refuted (eq x two) (λ e. true≢false (sym h ∙ ap test (equals_two e) ∙ t))

-- ---- the tests on bits

doubled : (b : ℕ) → b < 2 ^ 64 → (b + b) % 2 ^ 64 ≡ 0 → (b ≡ 0) ⊎ (b ≡ 2 ^ 63)
doubled b u e = go (dec_le (2 ^ 63) b)
  where
    go : Dec (2 ^ 63 ≤ b) → (b ≡ 0) ⊎ (b ≡ 2 ^ 63)
    go (yes l) =
        let q : (b + b) / 2 ^ 64 ≤ 1 = omega arith in
        let r : 1 ≤ (b + b) / 2 ^ 64 = omega arith in
        inr (omega arith)
    go (no n) =
        let l : b < 2 ^ 63 = lt_of_not-le n in
        let s : (b + b) % 2 ^ 64 ≡ b + b = mod-eq_of_lt (omega arith) in
        inl (omega arith)

zero_itself : eq zero zero ≡ true
unfolding eq of_bits
zero_itself = refl

minus_zero_equal : eq minus_zero zero ≡ true
unfolding eq of_bits
minus_zero_equal = refl

two_itself : eq two two ≡ true
unfolding eq of_bits
two_itself = refl

bits_of_zero : to_bits binary64 zero ≡ 0
unfolding to_bits of_bits
bits_of_zero = refl

bits_of_minus_zero : to_bits binary64 minus_zero ≡ 2 ^ 63
unfolding to_bits of_bits
bits_of_minus_zero = refl

bits_of_two : to_bits binary64 two ≡ 0x4000_0000_0000_0000
unfolding to_bits of_bits
bits_of_two = refl

-- These stand over variables: `omega` refuses the numeral 2 ^ 1075.
not_below : (a : ℕ) → a + 0 < 0 + 0 → ⊥
not_below a h = omega arith

not_above : (a b : ℕ) → a < b → b + 0 < a + 0 → ⊥
not_above a b h g = omega arith

plain_lt : (a b : ℕ) → a + 0 < b + 0 → a < b
plain_lt a b h = omega arith

positive : (a : ℕ) → (0 + 0 ≡ 0 + a → ⊥) → 0 + 0 < 0 + a
positive a n = lt_of_not-le (λ (l : 0 + a ≤ 0 + 0). n (omega arith))

two_val : Val binary64 two (2 ^ 1075) 0 0
two_val = val_whole {x = two} (unfold of_bits in (refl, refl))

module _ (x : Float) (f : T (fits binary64 x)) where
  same_pattern : (b : ℕ) → to_bits binary64 x ≡ b → x ≡ of_bits binary64 b
  same_pattern b e = sym (of_bits-to_bits binary64 x f) ∙ ap (of_bits binary64) e

  pub bits_zero : (to_bits binary64 x + to_bits binary64 x) % 2 ^ 64 ≡ 0 → eq x zero ≡ true
  bits_zero h = go (doubled (to_bits binary64 x) (to_bits-lt binary64 x f) h)
    where
      go : (to_bits binary64 x ≡ 0) ⊎ (to_bits binary64 x ≡ 2 ^ 63) → eq x zero ≡ true
      go (inl e) = ap (λ (y : Float). eq y zero) (same_pattern 0 e) ∙ zero_itself
      go (inr e) = ap (λ (y : Float). eq y zero) (same_pattern (2 ^ 63) e) ∙ minus_zero_equal

  pub bits_not_zero : ((to_bits binary64 x + to_bits binary64 x) % 2 ^ 64 ≡ 0 → ⊥) → eq x zero ≡ false
  bits_not_zero n = refuted (eq x zero) (λ h. go (equals_zero x f h))
    where
      go : (x ≡ zero) ⊎ (x ≡ minus_zero) → ⊥
      go (inl k) = n (ap (λ (b : ℕ). (b + b) % 2 ^ 64) (ap (to_bits binary64) k ∙ bits_of_zero))
      go (inr k) = n (ap (λ (b : ℕ). (b + b) % 2 ^ 64) (ap (to_bits binary64) k ∙ bits_of_minus_zero))

  pub bits_two : to_bits binary64 x ≡ 0x4000_0000_0000_0000 → eq x two ≡ true
  bits_two e = ap (λ (y : Float). eq y two) (same_pattern 0x4000_0000_0000_0000 e) ∙ two_itself

  pub bits_not_two : (to_bits binary64 x ≡ 0x4000_0000_0000_0000 → ⊥) → eq x two ≡ false
  bits_not_two n = refuted (eq x two) (λ h. n (ap (to_bits binary64) (equals_two x f h) ∙ bits_of_two))

-- ---- what is outside

yes_of : (b : Bool) → T b → b ≡ true
yes_of true h = refl
yes_of false h = absurd h

no_of : (b : Bool) → (T b → ⊥) → b ≡ false
no_of true h = absurd (h tt)
no_of false h = refl

not_of : (b : Bool) → b ≡ false → T (not b)
not_of true h = absurd (true≢false h)
not_of false h = tt

pub nan_outside : outside nan ≡ true
unfolding lt of_bits is_nan
nan_outside = refl

minus_infinity_outside : outside (inf true) ≡ true
unfolding lt of_bits is_nan
minus_infinity_outside = refl

infinity_outside : outside (inf false) ≡ true
unfolding lt of_bits is_nan
infinity_outside = refl

pub below_outside : (x : Float) → lt x zero ≡ true → outside x ≡ true
below_outside x h = rw h

pub above_outside : (x : Float) → lt two x ≡ true → outside x ≡ true
above_outside x h = rw h (either (lt x zero))
  where
    either : (b : Bool) → b || true ≡ true
    either true = refl
    either false = refl

number : (x : Float) (s : Bool) (a : ℕ) → HasValue x s a (2 ^ 1074) → is_nan x ≡ false
unfolding is_nan
number nan s a h = absurd h
number (inf t) s a h = absurd h
number (fin t m e) s a h = refl

pub within_inside : (x : Float) → BelowTwo x → outside x ≡ false
within_inside x w =
    let v = val_whole {x = x} w.val in
    let below : lt x zero ≡ false = no_of (lt x zero) (λ h. not_below w.a (val_of_lt v (zero_val 0) h)) in
    let above : lt two x ≡ false = no_of (lt two x) (λ h. not_above w.a (2 ^ 1075) w.high (val_of_lt two_val v h)) in
    rw (below, above) (number x false w.a w.val)

pub within_not_two : (x : Float) → T (fits binary64 x) → BelowTwo x → eq x two ≡ false
within_not_two x f w =
    refuted (eq x two)
    (λ h. lt_irrefl 0x4000_0000_0000_0000 (rw (ap (to_bits binary64) (equals_two x f h) ∙ bits_of_two) at (below_two_bits x w)))

-- From 2's pattern on, but for -0 and 2 itself.
pub bits_outside : (x : Float) → T (fits binary64 x) → 0x4000_0000_0000_0000 ≤ to_bits binary64 x → eq x zero ≡ false → eq x two ≡ false
    → outside x ≡ true
bits_outside nan f l z t = nan_outside
bits_outside (inf true) f l z t = minus_infinity_outside
bits_outside (inf false) f l z t = infinity_outside
bits_outside (fin true m e) f l z t =
    let u = in_units true m e f in
    let v = val_whole_negative {x = fin true m e} u.val in
    let n = val_of_not_eq v (zero_val 0) (not_of (eq (fin true m e) zero) z) in
    below_outside (fin true m e) (yes_of (lt (fin true m e) zero) (lt_of_val v (zero_val 0) (positive (m * 2 ^ u.w) n)))
bits_outside (fin false m e) f l z t = go (lt two (fin false m e)) refl
  where
    go : (b : Bool) → lt two (fin false m e) ≡ b → outside (fin false m e) ≡ true
    go true h = above_outside (fin false m e) h
    go false h =
        let u = in_units false m e f in
        let v = val_whole {x = fin false m e} u.val in
        let below = lt_of_neither v two_val (not_of (eq (fin false m e) two) t) (not_of (lt two (fin false m e)) h) in
        let w : BelowTwo (fin false m e) =
        record { a = m * 2 ^ u.w; val = u.val; high = plain_lt (m * 2 ^ u.w) (2 ^ 1075) (val_of_lt v two_val below) } in
        absurd (not-le_of_lt (below_two_bits (fin false m e) w) l)
