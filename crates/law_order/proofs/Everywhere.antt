-- The quantile at every double, told both ways: where x lies, by comparing it with 0, 1 and 2, gives the kind of its answer, and no two places give
-- the same kind. Assumes nothing.
use mathlib.Core.Path.{◌≡◌, refl, sym, ap, ◌∙◌, subst}
use mathlib.Core.Logic.{◌⊎◌, inl, inr}
use mathlib.Core.Bool.{true, false, true≢false, cond}
use Prim.Native.Nat.{ℕ, ◌+◌, ◌≤◌, ◌<◌}
use native.Mathlib.Decide.{dec_le}
use native.Mathlib.Nat.{lt_of_not-le}
use native.Mathlib.Omega.{arith}
use denote.Floats.{passes}
use lib.Dec.{T}
use lib.Ieee.{Float, nan, inf, fin, binary64, fits, of_bits, lt, eq}
use lib.Ieee.Bits.{is_true, of_bits-fits}
use Rattle.facts.proofs.Tests.{refuted}
use Rattle.pxfm.specs.DoubleDouble.{one, two}
use Rattle.pxfm.specs.Argument.{zero}
use Rattle.pxfm.specs.Inverfc.{f_erfcinv}
use Rattle.pxfm.proofs.Value.{Val}
use Rattle.pxfm.proofs.Units.{in_units, val_whole, val_whole_negative}
use Rattle.pxfm.proofs.Order.{lt_of_val, val_of_lt, eq_of_val}
use Rattle.pxfm.proofs.Ranges.{zero_val, one_val, two_val}
use Rattle.pxfm.proofs.FirstTests.{equals_zero, equals_one, equals_two}
use Rattle.pxfm.proofs.Answers.{nan_answer, zero_answer, two_answer, negative_answer, above_two_answer, one_answer}
use Rattle.law_order.specs.Order.{Below}
use Rattle.law_order.specs.Everywhere.{minus_zero, Positive, Negative, QuantileEverywhere}
use Rattle.law_order.proofs.Signs.{one_two, one_zero, quantile_sign}

-- ---- the kinds of answers, and where each is given

data Kind : Type 0 where
  infinity : Kind
  minus_infinity : Kind
  none : Kind
  nothing : Kind
  positive : Kind
  negative : Kind

abbrev kind_of : Float → Kind
kind_of nan = none
kind_of (inf s) = cond s minus_infinity infinity
kind_of (fin s m e) = cond (lt zero (fin s m e)) positive (cond (lt (fin s m e) zero) negative nothing)

abbrev Given : Kind → Float → Type 0
Given infinity x = (x ≡ zero) ⊎ (x ≡ minus_zero)
Given minus_infinity x = x ≡ two
Given none x = Below x zero ⊎ (Below two x ⊎ (x ≡ nan))
Given nothing x = x ≡ one
Given positive x = Below zero x × Below x one
Given negative x = Below one x × Below x two

kind_zero : kind_of zero ≡ nothing
unfolding lt of_bits
kind_zero = refl

kind_positive : (y : Float) → Positive y → kind_of y ≡ positive
kind_positive nan h = absurd (unfold lt of_bits in true≢false (sym h.above))
kind_positive (inf s) h = absurd (true≢false (sym h.number.number))
kind_positive (fin s m e) h = rw h.above refl

-- what is below zero is not above it
not_above : {y : Float} {p n : ℕ} → Val binary64 y p n 0 → Below y zero → lt zero y ≡ false
not_above {y} {p} {n} v b =
    refuted (lt zero y) (λ a. no p n (val_of_lt v (zero_val 0) (passes (lt y zero) b)) (val_of_lt (zero_val 0) v (passes (lt zero y) a)))
  where
    no : (p n : ℕ) → p + 0 < 0 + n → 0 + n < p + 0 → ⊥
    no p n h k = omega arith

kind_negative : (y : Float) → Negative y → kind_of y ≡ negative
kind_negative nan h = absurd (unfold lt of_bits in true≢false (sym h.below))
kind_negative (inf s) h = absurd (true≢false (sym h.number.number))
kind_negative (fin true m e) h =
    let u = in_units true m e (passes (fits binary64 (fin true m e)) h.number.double) in
    rw (not_above (val_whole_negative u.val) h.below, h.below) refl
kind_negative (fin false m e) h =
    let u = in_units false m e (passes (fits binary64 (fin false m e)) h.number.double) in
    rw (not_above (val_whole u.val) h.below, h.below) refl

-- ---- each place gives its kind

-- x is below y, equal to it or above it
compared : {P : Type 0} {x y : Float} {p n q m : ℕ} → Val binary64 x p n 0 → Val binary64 y q m 0
    → (Below x y → P) → (eq x y ≡ true → P) → (Below y x → P) → P
compared {P} {x} {y} {p} {n} {q} {m} v w f g h = go (dec_le (p + m) (q + n)) (dec_le (q + n) (p + m))
  where
    go : Dec (p + m ≤ q + n) → Dec (q + n ≤ p + m) → P
    go (yes a) (yes b) = g (is_true (eq x y) (eq_of_val v w (omega arith)))
    go (yes a) (no b) = f (is_true (lt x y) (lt_of_val v w (lt_of_not-le b)))
    go (no a) b = h (is_true (lt y x) (lt_of_val w v (lt_of_not-le a)))

record Placed (x : Float) : Type 0 where
  kind : Kind
  given : Given kind x
  told : kind_of (f_erfcinv x) ≡ kind

module _ (x : Float) (f : fits binary64 x ≡ true) where
  abbrev double : T (fits binary64 x)
  double = passes (fits binary64 x) f

  lower : Below zero x → Below x one → Positive (f_erfcinv x)
  lower a b = let s = quantile_sign x f in record { number = s.number a (one_two x f a b); above = s.above a b; clear = s.clear a b }

  upper : Below one x → Below x two → Negative (f_erfcinv x)
  upper a b = let s = quantile_sign x f in record { number = s.number (one_zero x f a b) b; below = s.below a b; set = s.set a b }

  outside : Given none x → f_erfcinv x ≡ nan
  outside (inl h) = negative_answer x double h
  outside (inr (inl h)) = above_two_answer x double h
  outside (inr (inr h)) = ap f_erfcinv h ∙ nan_answer

  -- x in units of the smallest double, compared with 0, 1 and 2
  number_placed : {p n : ℕ} → Val binary64 x p n 0 → Placed x
  number_placed v =
      compared v (zero_val 0)
      (λ h. record { kind = none; given = inl h; told = ap kind_of (negative_answer x double h) })
      (λ h. record { kind = infinity; given = equals_zero x double h; told = ap kind_of (zero_answer x h) })
      (λ a. compared v (one_val 1074 0 refl)
      (λ b. record { kind = positive; given = (a, b); told = kind_positive (f_erfcinv x) (lower a b) })
      (λ h. record { kind = nothing; given = equals_one x double h; told = ap kind_of (one_answer x double h) ∙ kind_zero })
      (λ b. compared v (two_val 1075 0 refl)
      (λ c. record { kind = negative; given = (b, c); told = kind_negative (f_erfcinv x) (upper b c) })
      (λ h. record { kind = minus_infinity; given = equals_two x double h; told = ap kind_of (two_answer x double h) })
      (λ h. record { kind = none; given = inr (inl h); told = ap kind_of (above_two_answer x double h) })))

placed : (x : Float) → fits binary64 x ≡ true → Placed x
placed nan f = record { kind = none; given = inr (inr refl); told = ap kind_of nan_answer }
placed (inf true) f =
    let h : Below (inf true) zero = unfold lt of_bits in refl in
    record { kind = none; given = inl h; told = ap kind_of (negative_answer (inf true) (passes (fits binary64 (inf true)) f) h) }
placed (inf false) f =
    let h : Below two (inf false) = unfold lt of_bits in refl in
    record { kind = none; given = inr (inl h); told = ap kind_of (above_two_answer (inf false) (passes (fits binary64 (inf false)) f) h) }
placed (fin true m e) f =
    number_placed (fin true m e) f (val_whole_negative (in_units true m e (passes (fits binary64 (fin true m e)) f)).val)
placed (fin false m e) f = number_placed (fin false m e) f (val_whole (in_units false m e (passes (fits binary64 (fin false m e)) f)).val)

-- ---- the law

zero_equal : (x : Float) → (x ≡ zero) ⊎ (x ≡ minus_zero) → eq x zero ≡ true
unfolding eq of_bits
zero_equal x (inl h) = rw h refl
zero_equal x (inr h) = rw h refl

at_two : f_erfcinv two ≡ inf true
unfolding eq of_bits
at_two = two_answer two (of_bits-fits binary64 0x4000_0000_0000_0000) refl

at_one : f_erfcinv one ≡ zero
unfolding eq of_bits
at_one = one_answer one (of_bits-fits binary64 0x3ff0_0000_0000_0000) refl

-- Every double: NaN, the infinities, zeros and subnormals too.
pub quantile_everywhere : (x : Float) → fits binary64 x ≡ true → QuantileEverywhere x
quantile_everywhere x f =
    record {
      infinity = record { only = λ e. by_kind infinity (ap kind_of e); there = λ h. zero_answer x (zero_equal x h) };
      minus_infinity = record { only = λ e. by_kind minus_infinity (ap kind_of e); there = λ h. ap f_erfcinv h ∙ at_two };
      none = record { only = λ e. by_kind none (ap kind_of e); there = outside x f };
      nothing = record { only = λ e. by_kind nothing (ap kind_of e ∙ kind_zero); there = λ h. ap f_erfcinv h ∙ at_one };
      positive = record { only = λ e. by_kind positive (kind_positive (f_erfcinv x) e); there = λ h. lower x f h.0 h.1 };
      negative = record { only = λ e. by_kind negative (kind_negative (f_erfcinv x) e); there = λ h. upper x f h.0 h.1 };
    }
  where
    -- no place gives another kind
    by_kind : (k : Kind) → kind_of (f_erfcinv x) ≡ k → Given k x
    by_kind k e = let p = placed x f in subst (λ (j : Kind). Given j x) (sym p.told ∙ e) p.given
