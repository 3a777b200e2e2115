-- The answers of the quantile that need no branch of it (document 01, src/err/inverfc.rs): ±0 gives +infinity, 2 gives -infinity, the numbers below 0
-- and above 2 and a NaN give NaN, and 1 gives +0. Each is told apart from what the definition asks before it. Assumes nothing.
use Rattle.std.proofs.Common.{◌≡◌, Bool, true, false, cond, T, sym, refl, ap, ◌∙◌, true≢false}
use lib.Ieee.{Float, nan, inf, binary64, is_nan, fits, of_bits, eq, lt}
use lib.Ieee.Bits.{of_bits-fits}
use lib.Ieee.Scale.{finite}
use Rattle.pxfm.specs.DoubleDouble.{one, two, to_f64}
use Rattle.pxfm.specs.Argument.{zero, tenth}
use Rattle.pxfm.specs.Inverfc.{outside, inverfc_extra_small, central_of, f_erfcinv}
use Rattle.pxfm.proofs.Bits.{BelowTwo}
use Rattle.pxfm.proofs.FirstTests.{minus_zero, equals_one, not_zero_by, not_two_by, below_outside, above_outside, within_inside, within_not_two}

pub nan_answer : f_erfcinv nan ≡ nan
unfolding f_erfcinv eq lt of_bits is_nan
nan_answer = refl

pub zero_answer : (x : Float) → eq x zero ≡ true → f_erfcinv x ≡ inf false
unfolding f_erfcinv
zero_answer x h = rw h

-- A test that ±0 and 2 do not pass.
record Others (test : Float → Bool) : Type 0 where
  not_zero : test zero ≡ false
  not_minus_zero : test minus_zero ≡ false
  not_two : test two ≡ false

pub outside_answer : (x : Float) → eq x zero ≡ false → eq x two ≡ false → outside x ≡ true → f_erfcinv x ≡ nan
unfolding f_erfcinv
outside_answer x z t h = rw (z, t, h)

module _ (x : Float) (f : T (fits binary64 x)) where
  equal_two_alone : (eq zero two ≡ false) × (eq minus_zero two ≡ false)
  unfolding eq of_bits
  equal_two_alone = (refl, refl)

  pub two_answer : eq x two ≡ true → f_erfcinv x ≡ inf true
  unfolding f_erfcinv
  two_answer h = rw (not_zero_by x f (λ y. eq y two) equal_two_alone.0 equal_two_alone.1 h, h)

  outside_by : (test : Float → Bool) → Others test → test x ≡ true → outside x ≡ true → f_erfcinv x ≡ nan
  outside_by test o h =
      outside_answer x (not_zero_by x f test o.not_zero o.not_minus_zero h) (not_two_by x f test o.not_two h)

  below_others : Others (λ y. lt y zero)
  unfolding lt of_bits
  below_others = record { not_zero = refl; not_minus_zero = refl; not_two = refl }

  pub negative_answer : lt x zero ≡ true → f_erfcinv x ≡ nan
  negative_answer h = outside_by (λ y. lt y zero) below_others h (below_outside x h)

  above_others : Others (λ y. lt two y)
  unfolding lt of_bits
  above_others = record { not_zero = refl; not_minus_zero = refl; not_two = refl }

  pub above_two_answer : lt two x ≡ true → f_erfcinv x ≡ nan
  above_two_answer h = outside_by (λ y. lt two y) above_others h (above_outside x h)

  -- From above 0 up to 2 the rest of the definition answers.
  pub inside_answer : BelowTwo x → eq x zero ≡ false
      → f_erfcinv x ≡ cond (eq x one) zero (cond (lt x tenth) (to_f64 (inverfc_extra_small x)) (central_of x))
  unfolding f_erfcinv
  inside_answer w z = rw (z, within_not_two x f w, within_inside x w)

at_one : f_erfcinv one ≡ zero
unfolding f_erfcinv eq lt of_bits is_nan
at_one = refl

pub one_answer : (x : Float) → T (fits binary64 x) → eq x one ≡ true → f_erfcinv x ≡ zero
one_answer x f h = ap f_erfcinv (equals_one x f h) ∙ at_one

-- ---- promise c

at_zero : f_erfcinv zero ≡ inf false
unfolding f_erfcinv eq of_bits
at_zero = refl

-- no constant is the quantile of every double: at 0 it is infinite, at 1 it is 0
pub constant_quantile : (c : Float) → ((x : Float) → T (fits binary64 x) → f_erfcinv x ≡ c) → ⊥
constant_quantile c h =
    let same : zero ≡ inf false =
    sym at_one ∙ h one (of_bits-fits binary64 0x3ff0_0000_0000_0000) ∙ sym (h zero (of_bits-fits binary64 0)) ∙ at_zero in
    let plain : finite zero ≡ true = unfold of_bits in refl in
    true≢false (sym plain ∙ ap finite same)
