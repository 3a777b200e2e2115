-- What `f_erfcinv` hands to `erf_core` lies between 0 and 1, and what `erf_core` hands to the logarithm above 0.75 is
-- positive and finite. For x above 1 the pair is that of 2 - x. Below 1, 1 - x is exact from 0.5 up and has a bounded error
-- from 0.1 up; above 0.75 the high part that the logarithm is given is exactly 1 - x. Assumes nothing.
use Rattle.std.proofs.Common.{◌≡◌, ℕ, ◌+◌, ◌*◌, ◌^◌, ◌<◌, ◌≤◌, Bool, true, false, cond, not, T, ltb, sym, refl, subst, arith, ltb→lt, nltb→le}
use lib.Ieee.{Float, binary64, fits, to_bits, lt, le, eq}
use lib.Ieee.Bits.{is_true}
use denote.Floats.{passes}
use Rattle.pxfm.specs.declared.double_double.DoubleDouble.{DoubleDouble}
use Rattle.pxfm.specs.DoubleDouble.{new_of, one, two, neg_of, from_full_exact_sub, full_add_f64}
use Rattle.pxfm.specs.Argument.{zero, tenth, three_quarters, mirrored_of, complement, core_argument}
use Rattle.pxfm.proofs.Value.{Val}
use Rattle.pxfm.proofs.Units.{val_whole}
use Rattle.pxfm.proofs.Order.{lt_of_val, lt_of_neither}
use Rattle.pxfm.proofs.Bits.{BelowTwo, bits_below_two, positive_bits}
use Rattle.pxfm.proofs.Ranges.{zero_val, one_val, LowerHalf, lower_half, UpperHalf, upper_half, AboveOne, above_one}
use Rattle.pxfm.proofs.Ranges.{upper_quarter}
use Rattle.pxfm.proofs.Complement.{one_less, complement_exact, two_less, two_less_pair, complement_near}
use Rattle.pxfm.proofs.Error.{Off}

fails : {b : Bool} → b ≡ false → T (not b)
fails e = rw e tt

-- ---- between 0 and 1

-- A pair strictly between 0 and 1 by its high part.
pub record Inside (d : DoubleDouble) : Type 0 where
  pub above : T (lt zero d.hi)
  pub below : T (lt d.hi one)

exact_inside : {d : DoubleDouble} {p n : ℕ} → Val binary64 d.hi p n 1021 → n < p → p < n + 2 ^ 53 → Inside d
exact_inside e lo hi =
    record {
      above = lt_of_val (zero_val 1021) e (omega arith);
      below = lt_of_val e (one_val 53 1021 refl) (omega arith);
    }

near_inside : {d : DoubleDouble} {a : ℕ} → Off d.hi (2 ^ 56) a 1018 64 → 64 < a → a < 2 ^ 55 → Inside d
near_inside h lo hi =
    record {
      above = lt_of_val (zero_val 1018) h.val (omega (arith, h.over, h.under));
      below = lt_of_val h.val (one_val 56 1018 refl) (omega (arith, h.over, h.under));
    }

inside_below_one : (x : Float) → T (fits binary64 x) → BelowTwo x → T (not (lt x tenth)) → T (lt x one) → Inside (complement (new_of zero x))
inside_below_one x f u nl l = go (ltb u.a (2 ^ 1073)) (ltb→lt u.a (2 ^ 1073)) (nltb→le u.a (2 ^ 1073))
  where
    lower : LowerHalf x → Inside (complement (new_of zero x))
    lower h = near_inside (complement_near h.val h.to) (omega (arith, h.from)) h.to

    upper : UpperHalf x → Inside (complement (new_of zero x))
    upper h =
        let lo : 2 ^ 52 ≤ h.a = h.from in
        let hi : h.a < 2 ^ 53 = h.to in
        exact_inside (complement_exact h.val (omega arith) (omega arith)) (omega arith) (omega arith)

    go : (b : Bool) → (T b → u.a < 2 ^ 1073) → (T (not b) → 2 ^ 1073 ≤ u.a) → Inside (complement (new_of zero x))
    go true h k = lower (lower_half x f u nl (h tt))
    go false h k = upper (upper_half x u.a f u.val (k tt) l)

inside_above_one : (x : Float) → T (fits binary64 x) → AboveOne x → Inside (complement (from_full_exact_sub two x))
inside_above_one x f h =
    let lo : 2 ^ 52 < h.a = h.from in
    let hi : h.a < 2 ^ 53 = h.to in
    let e = complement_exact (two_less h.val lo hi) (omega arith) (omega arith) in
    subst (λ (d : DoubleDouble). Inside (complement d)) (sym (two_less_pair h.val lo hi f)) (exact_inside e (omega arith) (omega arith))

pub argument_inside : (x : Float) → T (fits binary64 x) → to_bits binary64 x < 0x4000_0000_0000_0000 → T (not (eq x one))
    → T (not (lt x tenth)) → Inside (core_argument x)
unfolding core_argument mirrored_of
argument_inside x f b ne nl =
    let u = bits_below_two x f b in
    go (lt one x) (λ h. inside_above_one x f (above_one x f u h))
    (λ h. inside_below_one x f u nl (lt_of_neither (val_whole u.val) (one_val 1074 0 refl) ne h))
  where
    go : (c : Bool) → (T c → Inside (complement (from_full_exact_sub two x))) → (T (not c) → Inside (complement (new_of zero x)))
        → Inside (complement (cond c (from_full_exact_sub two x) (new_of zero x)))
    go true h k = h tt
    go false h k = k tt

-- What `erf_core` requires, from the tests of `f_erfcinv`.
module _ (x : Float) (f : fits binary64 x ≡ true) (b : to_bits binary64 x < 0x4000_0000_0000_0000) (ne : eq x one ≡ false)
    (nl : lt x tenth ≡ false) where
  inside : Inside (core_argument x)
  inside = argument_inside x (passes (fits binary64 x) f) b (fails ne) (fails nl)

  pub argument_below_one : lt (core_argument x).hi one ≡ true
  argument_below_one = is_true (lt (core_argument x).hi one) inside.below

-- ---- the argument of the logarithm

pub log_argument : (x : DoubleDouble) → fits binary64 x.hi ≡ true → lt x.hi one ≡ true → le x.hi three_quarters ≡ false
    → (0 < to_bits binary64 (full_add_f64 (neg_of x) one).hi) × (to_bits binary64 (full_add_f64 (neg_of x) one).hi < 0x7ff0_0000_0000_0000)
unfolding full_add_f64 neg_of
log_argument x f l nl =
    let h = upper_quarter x.hi (passes (fits binary64 x.hi) f) (passes (lt x.hi one) l) (fails nl) in
    let lo : 3 * 2 ^ 51 < h.a = h.from in
    let hi : h.a < 2 ^ 53 = h.to in
    positive_bits 1021 53 (omega arith) (one_less h.val (omega arith) (omega arith)).high (omega arith) (omega arith)
