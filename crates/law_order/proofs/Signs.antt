-- The quantile's sign, for every double between 0 and 2: above zero below 1, below zero above 1. Below 0.1 it is a tail; from there on `erf_core` of
-- 1 - x, which is exact from 0.5 on, and above 1 that of 1 - (2 - x), which is exact, times -1. Assumes nothing.
use mathlib.Core.Path.{◌≡◌, refl, sym, ◌∙◌, subst}
use mathlib.Core.Bool.{Bool, true, false, true≢false, not, cond}
use Prim.Native.Nat.{ℕ, ◌+◌, ◌-◌, ◌*◌, ◌/◌, ◌^◌, ◌≤◌, ◌<◌}
use native.Mathlib.Nat.{le_of_lt, lt_of_le_of_lt}
use native.Mathlib.Omega.{arith}
use denote.Floats.{passes}
use lib.Dec.{T, ltb, ltb→lt, nltb→le, lit<}
use lib.Pow.{pow_pos}
use lib.Ieee.{Float, nan, inf, fin, binary64, size, fits, of_bits, to_bits, neg, sub, lt, le, eq}
use lib.Ieee.Bits.{is_true}
use lib.Ieee.Exact.{HasValue}
use lib.Ieee.Digits.{size-le}
use lib.Ieee.Fits.{add-fits, neg-fits, kept-lt}
use lib.Ieee.Scale.{finite}
use Rattle.facts.proofs.Tests.{refuted}
use Rattle.double_bits.proofs.Patterns.{bits_of_units}
use Rattle.pxfm.specs.declared.double_double.DoubleDouble.{DoubleDouble}
use Rattle.pxfm.specs.DoubleDouble.{new_of, one, two, neg_of, from_exact_add, from_full_exact_sub, full_add_f64, to_f64}
use Rattle.pxfm.specs.Argument.{zero, tenth, mirrored_of, complement, core_argument}
use Rattle.pxfm.specs.Inverfc.{inverfc_extra_small, erf_core, sign_of, central_of, f_erfcinv}
use Rattle.pxfm.proofs.Value.{Val, add_rounds, sub_rounds, neg_val}
use Rattle.pxfm.proofs.Exact.{exact64}
use Rattle.pxfm.proofs.Units.{in_units, val_whole, val_whole_negative}
use Rattle.pxfm.proofs.Order.{lt_of_val, le_of_val, val_of_lt, eq_of_val, val_of_eq, lt_of_neither}
use Rattle.pxfm.proofs.Bits.{BelowTwo}
use Rattle.pxfm.proofs.Ranges.{zero_val, one_val, two_val, tenth_val, tenth_units, UpperHalf, upper_half, AboveOne, above_one}
use Rattle.pxfm.proofs.Complement.{one_less, complement_exact, two_less, two_less_pair}
use Rattle.pxfm.proofs.Answers.{inside_answer, one_answer}
use Rattle.law_mirror.proofs.Sign.{mul_one_is, mul_minus_one_is}
use Rattle.law_bounds.specs.Interval.{In, between}
use Rattle.law_bounds.specs.Ranges.{every, reach_b, core_low_b}
use Rattle.law_bounds.proofs.Operations.{Counted, counted, counted_in, neg_value, finite_of}
use Rattle.law_bounds.proofs.Estimate.{given, pair_e, point}
use Rattle.law_bounds.proofs.Pairs.{InP, settle}
use Rattle.law_bounds.proofs.Tests.{below_of_lt, below_of_not_lt, cap_e, floor_e}
use Rattle.law_bounds.proofs.Quantile.{complement_e}
use Rattle.law_order.specs.Order.{AtMost, Below, Finite, sign_bit, sixty_four, QuantileSign}
use Rattle.law_order.proofs.Keeps.{le_turned}
use Rattle.law_order.specs.Ranges.{above_b, Plain, rough_b}
use Rattle.law_order.proofs.Above.{decide, extra_small_above}
use Rattle.law_order.proofs.Core.{zero_of, inside_of, plain_above, rough_above}

-- ---- 1 - x where it is exact

module _ {x : Float} {p n : ℕ} (v : Val binary64 x p n 1021) (lo : n < p) (hi : p < n + 2 ^ 53) where
  complement_low : Val binary64 (complement (new_of zero x)).lo 0 0 1021
  unfolding complement full_add_f64 neg_of from_exact_add
  complement_low =
      let h = (one_less v lo hi).high in
      let l = exact64 (add_rounds (neg_val (zero_val 1021)) (one_less v lo hi).low) 0 0 (omega arith) in
      let s = exact64 (add_rounds h l) (2 ^ 53 + n) p (omega arith) in
      let t = exact64 (sub_rounds s h) 0 0 (omega arith) in
      exact64 (sub_rounds l t) 0 0 (omega arith)

  complement_fits : T (fits binary64 (complement (new_of zero x)).hi)
  unfolding complement from_exact_add
  complement_fits = add-fits binary64 _ _

  complement_plain : Plain (complement (new_of zero x))
  complement_plain =
      record {
        double = complement_fits;
        lo = zero_of complement_low;
        hi = inside_of (complement_exact v lo hi) (omega arith) (omega arith);
      }

-- ---- from 0.1 to 0.5

complement_rough : (x : Float) → T (not (lt x tenth)) → In x (between 1 (2 ^ 1073)) → InP (complement (new_of zero x)) core_low_b rough_b
unfolding complement_e floor_e point of_bits
complement_rough x t h = settle core_low_b rough_b (complement_e (pair_e (point zero) (floor_e tenth (below_of_not_lt t) (given h)))) tt

-- ---- what `erf_core` gives

-- a double above zero
record Positive (y : Float) : Type 0 where
  double : T (fits binary64 y)
  inside : In y above_b

sum_fits : (d : DoubleDouble) → T (fits binary64 (to_f64 d))
unfolding to_f64
sum_fits d = add-fits binary64 d.lo d.hi

below_core : (x : Float) → T (fits binary64 x) → (u : BelowTwo x) → 0 < u.a → T (not (lt x tenth)) → T (lt x one)
    → In (to_f64 (erf_core (complement (new_of zero x)))) above_b
below_core x f u p nl l = go (ltb u.a (2 ^ 1073)) (ltb→lt u.a (2 ^ 1073)) (nltb→le u.a (2 ^ 1073))
  where
    exact : UpperHalf x → In (to_f64 (erf_core (complement (new_of zero x)))) above_b
    exact h =
        let lo : 2 ^ 52 ≤ h.a = h.from in
        let hi : h.a < 2 ^ 53 = h.to in
        plain_above (complement (new_of zero x)) (complement_plain h.val (omega arith) (omega arith))

    go : (b : Bool) → (T b → u.a < 2 ^ 1073) → (T (not b) → 2 ^ 1073 ≤ u.a) → In (to_f64 (erf_core (complement (new_of zero x)))) above_b
    go true h k = rough_above (complement (new_of zero x)) (complement_rough x nl (counted_in 1 (2 ^ 1073) u.a u.val p (le_of_lt (h tt))))
    go false h k = exact (upper_half x u.a f u.val (k tt) l)

above_core : (x : Float) → T (fits binary64 x) → AboveOne x → In (to_f64 (erf_core (complement (from_full_exact_sub two x)))) above_b
above_core x f h =
    let lo : 2 ^ 52 < h.a = h.from in
    let hi : h.a < 2 ^ 53 = h.to in
    let c = complement_plain (two_less h.val lo hi) (omega arith) (omega arith) in
    subst (λ (d : DoubleDouble). In (to_f64 (erf_core (complement d))) above_b) (sym (two_less_pair h.val lo hi f))
    (plain_above (complement (new_of zero (sub binary64 two x))) c)

central_below : (x : Float) → lt one x ≡ false → In (to_f64 (erf_core (complement (new_of zero x)))) above_b → Positive (central_of x)
unfolding central_of sign_of core_argument mirrored_of
central_below x n h =
    let y = to_f64 (erf_core (complement (new_of zero x))) in
    let f = sum_fits (erf_core (complement (new_of zero x))) in
    rw n (rw (mul_one_is y f) (record { double = f; inside = h }))

central_above : (x : Float) → lt one x ≡ true → central_of x ≡ neg (to_f64 (erf_core (complement (from_full_exact_sub two x))))
unfolding central_of sign_of core_argument mirrored_of
central_above x n = rw n (mul_minus_one_is (to_f64 (erf_core (complement (from_full_exact_sub two x)))) (sum_fits (erf_core (complement (from_full_exact_sub two x)))))

-- ---- a double between 0 and 2

pub record Between (x : Float) : Type 0 where
  pub double : T (fits binary64 x)
  pub units : BelowTwo x
  pub some : 0 < units.a

pub between_of : (x : Float) → fits binary64 x ≡ true → Below zero x → Below x two → Between x
between_of nan f a b = absurd (unfold lt of_bits in true≢false (sym a))
between_of (inf false) f a b = absurd (unfold lt of_bits in true≢false (sym b))
between_of (inf true) f a b = absurd (unfold lt of_bits in true≢false (sym a))
between_of (fin true m e) f a b =
    let u = in_units true m e (passes (fits binary64 (fin true m e)) f) in
    absurd (no (m * 2 ^ u.w) (val_of_lt (zero_val 0) (val_whole_negative u.val) (passes (lt zero (fin true m e)) a)))
  where
    no : (k : ℕ) → 0 + k < 0 + 0 → ⊥
    no k h = omega arith
between_of (fin false m e) f a b =
    let g = passes (fits binary64 (fin false m e)) f in
    let u = in_units false m e g in
    let k = m * 2 ^ u.w in
    record {
      double = g;
      units =
          record {
            a = k;
            val = u.val;
            high = less k (2 ^ 1075) (val_of_lt (val_whole u.val) (two_val 1075 0 refl) (passes (lt (fin false m e) two) b));
          };
      some = more k (val_of_lt (zero_val 0) (val_whole u.val) (passes (lt zero (fin false m e)) a));
    }
  where
    less : (k l : ℕ) → k + 0 < 1 * l + 0 → k < l
    less k l h = omega arith

    more : (k : ℕ) → 0 + 0 < k + 0 → 0 < k
    more k h = omega arith

module _ (x : Float) (u : Between x) where
  not_zero : eq x zero ≡ false
  not_zero = refuted (eq x zero) (λ h. no u.units.a u.some (val_of_eq (val_whole u.units.val) (zero_val 0) (passes (eq x zero) h)))
    where
      no : (k : ℕ) → 0 < k → k + 0 ≡ 0 + 0 → ⊥
      no k p h = omega arith

  answer : f_erfcinv x ≡ cond (eq x one) zero (cond (lt x tenth) (to_f64 (inverfc_extra_small x)) (central_of x))
  answer = inside_answer x u.double u.units not_zero

  -- ---- below 1

  module _ (l : lt x one ≡ true) where
    below_units : u.units.a < 2 ^ 1074
    below_units = less u.units.a (2 ^ 1074) (val_of_lt (val_whole u.units.val) (one_val 1074 0 refl) (passes (lt x one) l))
      where
        less : (k l : ℕ) → k + 0 < 1 * l + 0 → k < l
        less k l h = omega arith

    not_one : eq x one ≡ false
    not_one =
        refuted (eq x one)
        (λ h. no u.units.a (2 ^ 1074) below_units (val_of_eq (val_whole u.units.val) (one_val 1074 0 refl) (passes (eq x one) h)))
      where
        no : (k l : ℕ) → k < l → k + 0 ≡ 1 * l + 0 → ⊥
        no k l p h = omega arith

    not_past : lt one x ≡ false
    not_past =
        refuted (lt one x)
        (λ h. no u.units.a (2 ^ 1074) below_units (val_of_lt (one_val 1074 0 refl) (val_whole u.units.val) (passes (lt one x) h)))
      where
        no : (k l : ℕ) → k < l → 1 * l + 0 < k + 0 → ⊥
        no k l p h = omega arith

    small_in : T (lt x tenth) → In x (reach_b every)
    unfolding cap_e of_bits
    small_in t =
        let h = counted_in 1 (2 ^ 1074) u.units.a u.units.val u.some (le_of_lt below_units) in
        decide (reach_b every) (cap_e tenth (below_of_lt t) (given h)) tt

    lower : Positive (f_erfcinv x)
    lower = rw (answer, not_one) (go (lt x tenth) refl)
      where
        go : (b : Bool) → lt x tenth ≡ b → Positive (cond b (to_f64 (inverfc_extra_small x)) (central_of x))
        go true e = record { double = sum_fits (inverfc_extra_small x); inside = extra_small_above x (small_in (passes (lt x tenth) e)) }
        go false e =
            central_below x not_past
            (below_core x u.double u.units u.some (fails e) (passes (lt x one) l))
          where
            fails : {b : Bool} → b ≡ false → T (not b)
            fails e = rw e tt

  -- ---- above 1

  module _ (g : lt one x ≡ true) where
    past : AboveOne x
    past = above_one x u.double u.units (passes (lt one x) g)

    past_units : 2 ^ 1074 < u.units.a
    past_units = less u.units.a (2 ^ 1074) (val_of_lt (one_val 1074 0 refl) (val_whole u.units.val) (passes (lt one x) g))
      where
        less : (k l : ℕ) → 1 * l + 0 < k + 0 → l < k
        less k l h = omega arith

    past_one : eq x one ≡ false
    past_one =
        refuted (eq x one)
        (λ h. no u.units.a (2 ^ 1074) past_units (val_of_eq (val_whole u.units.val) (one_val 1074 0 refl) (passes (eq x one) h)))
      where
        no : (k l : ℕ) → l < k → k + 0 ≡ 1 * l + 0 → ⊥
        no k l p h = omega arith

    past_tenth : lt x tenth ≡ false
    past_tenth =
        refuted (lt x tenth)
        (λ h. no u.units.a (2 ^ 1018) (u_less past_units) (val_of_lt (val_whole u.units.val) (tenth_val 1018 0 refl) (passes (lt x tenth) h)))
      where
        u_less : 2 ^ 1074 < u.units.a → 2 ^ 56 * 2 ^ 1018 < u.units.a
        u_less h = h

        no : (k w : ℕ) → 2 ^ 56 * w < k → k + 0 < tenth_units * w + 0 → ⊥
        no k w p h = omega arith

    abbrev mirrored : Float
    mirrored = to_f64 (erf_core (complement (from_full_exact_sub two x)))

    upper_is : f_erfcinv x ≡ neg mirrored
    upper_is = answer ∙ rw (past_one, past_tenth) (central_above x g)

    upper : Positive mirrored
    upper = record { double = sum_fits (erf_core (complement (from_full_exact_sub two x))); inside = above_core x u.double past }

-- ---- what an interval above zero says

finite_neg : (y : Float) → T (finite y) → T (finite (neg y))
unfolding neg
finite_neg nan t = t
finite_neg (inf s) t = t
finite_neg (fin s m e) t = t

sixty_four_value : HasValue sixty_four false (2 ^ 1080) (2 ^ 1074)
unfolding of_bits
sixty_four_value = (refl, refl)

pattern_below : (k d : ℕ) → k ≤ 1028 → d < 2 ^ 53 → 0 + k * 2 ^ 52 + d < 2 ^ 63
pattern_below k d h l = omega arith

module _ (y : Float) (h : Positive y) where
  abbrev count : Counted y 1 (2 ^ 1080)
  count = counted 1 (2 ^ 1080) (lit< tt) h.inside

  positive_above : Below zero y
  positive_above = is_true (lt zero y) (lt_of_val (zero_val 0) (val_whole count.val) (plain count.n count.low))
    where
      plain : (n : ℕ) → 1 ≤ n → 0 + 0 < n + 0
      plain n p = omega arith

  positive_clear : to_bits binary64 y < sign_bit
  positive_clear =
      let s : size count.n ≤ 1081 = size-le count.n 1081 (lt_of_le_of_lt count.high (lit< tt)) in
      rw (bits_of_units binary64 y false count.n count.val)
      (pattern_below (size count.n - 53) (count.n / 2 ^ (size count.n - 53)) (omega arith) (kept-lt 53 count.n))

  negative_below : Below (neg y) zero
  negative_below =
      is_true (lt (neg y) zero) (lt_of_val (val_whole_negative (neg_value y false count.n count.val)) (zero_val 0) (plain count.n count.low))
    where
      plain : (n : ℕ) → 1 ≤ n → 0 + 0 < 0 + n
      plain n p = omega arith

  negative_set : sign_bit ≤ to_bits binary64 (neg y)
  negative_set = rw (bits_of_units binary64 (neg y) true count.n (neg_value y false count.n count.val)) (plain _ _)
    where
      plain : (a b : ℕ) → 2 ^ 63 ≤ 2 ^ 63 + a + b
      plain a b = omega arith

  positive_most : AtMost y sixty_four
  positive_most =
      is_true (le y sixty_four) (le_of_val (val_whole count.val) (val_whole sixty_four_value) (plain count.n (2 ^ 1080) count.high))
    where
      plain : (n k : ℕ) → n ≤ k → n + 0 ≤ k + 0
      plain n k p = omega arith

  negative_least : AtMost (neg sixty_four) (neg y)
  negative_least = is_true (le (neg sixty_four) (neg y)) (le_turned y sixty_four (passes (le y sixty_four) positive_most))

  positive_finite_lem : Finite y
  positive_finite_lem = record { double = is_true (fits binary64 y) h.double; number = is_true (finite y) (finite_of h.inside tt) }

  negative_finite : Finite (neg y)
  negative_finite =
      record {
        double = is_true (fits binary64 (neg y)) (neg-fits binary64 y h.double);
        number = is_true (finite (neg y)) (finite_neg y (finite_of h.inside tt));
      }

-- ---- the law

-- a double below 1 is below 2, and one above 1 above 0
pub one_two : (x : Float) → fits binary64 x ≡ true → Below zero x → Below x one → Below x two
one_two nan f a b = absurd (unfold lt of_bits in true≢false (sym a))
one_two (inf false) f a b = absurd (unfold lt of_bits in true≢false (sym b))
one_two (inf true) f a b = absurd (unfold lt of_bits in true≢false (sym a))
one_two (fin true m e) f a b =
    let u = in_units true m e (passes (fits binary64 (fin true m e)) f) in
    is_true (lt (fin true m e) two) (lt_of_val (val_whole_negative u.val) (two_val 1075 0 refl) (plain (m * 2 ^ u.w) (2 ^ 1075) (pow_pos 1075)))
  where
    plain : (k l : ℕ) → 0 < l → 0 + 0 < 1 * l + k
    plain k l p = omega arith
one_two (fin false m e) f a b =
    let u = in_units false m e (passes (fits binary64 (fin false m e)) f) in
    is_true (lt (fin false m e) two)
    (lt_of_val (val_whole u.val) (two_val 1075 0 refl)
    (plain (m * 2 ^ u.w) (2 ^ 1074) (val_of_lt (val_whole u.val) (one_val 1074 0 refl) (passes (lt (fin false m e) one) b))))
  where
    plain : (k l : ℕ) → k + 0 < 1 * l + 0 → k + 0 < 1 * (2 * l) + 0
    plain k l p = omega arith

pub one_zero : (x : Float) → fits binary64 x ≡ true → Below one x → Below x two → Below zero x
one_zero nan f a b = absurd (unfold lt of_bits in true≢false (sym a))
one_zero (inf false) f a b = absurd (unfold lt of_bits in true≢false (sym b))
one_zero (inf true) f a b = absurd (unfold lt of_bits in true≢false (sym a))
one_zero (fin true m e) f a b =
    let u = in_units true m e (passes (fits binary64 (fin true m e)) f) in
    absurd (no (m * 2 ^ u.w) (2 ^ 1074) (val_of_lt (one_val 1074 0 refl) (val_whole_negative u.val) (passes (lt one (fin true m e)) a)))
  where
    no : (k l : ℕ) → 1 * l + k < 0 + 0 → ⊥
    no k l h = omega arith
one_zero (fin false m e) f a b =
    let u = in_units false m e (passes (fits binary64 (fin false m e)) f) in
    is_true (lt zero (fin false m e))
    (lt_of_val (zero_val 0) (val_whole u.val)
    (plain (m * 2 ^ u.w) (2 ^ 1074) (val_of_lt (one_val 1074 0 refl) (val_whole u.val) (passes (lt one (fin false m e)) a))))
  where
    plain : (k l : ℕ) → 1 * l + 0 < k + 0 → 0 + 0 < k + 0
    plain k l p = omega arith

zero_finite : Finite zero
unfolding of_bits fits
zero_finite = record { double = refl; number = refl }

-- Every double between 0 and 2.
pub quantile_sign : (x : Float) → fits binary64 x ≡ true → QuantileSign x
quantile_sign x f =
    record {
      number = numbers;
      above = λ a b. positive_above (f_erfcinv x) (low a b);
      clear = λ a b. positive_clear (f_erfcinv x) (low a b);
      below = λ a b. let u = high a b in rw (upper_is x u a) (negative_below (mirrored x u a) (upper x u a));
      most = λ a b. positive_most (f_erfcinv x) (low a b);
      least = λ a b. let u = high a b in rw (upper_is x u a) (negative_least (mirrored x u a) (upper x u a));
      set = λ a b. let u = high a b in rw (upper_is x u a) (negative_set (mirrored x u a) (upper x u a));
    }
  where
    low : Below zero x → Below x one → Positive (f_erfcinv x)
    low a b = lower x (between_of x f a (one_two x f a b)) b

    high : Below one x → Below x two → Between x
    high a b = between_of x f (one_zero x f a b) b

    fails : {b : Bool} → b ≡ false → T (not b)
    fails e = rw e tt

    numbers : Below zero x → Below x two → Finite (f_erfcinv x)
    numbers a b = below_or (lt x one) refl
      where
        u : Between x
        u = between_of x f a b

        above_one : Below one x → Finite (f_erfcinv x)
        above_one c = rw (upper_is x u c) (negative_finite (mirrored x u c) (upper x u c))

        same_or : (c : Bool) → eq one x ≡ c → lt x one ≡ false → Finite (f_erfcinv x)
        same_or true c l =
            let v = val_whole u.units.val in
            let e = eq_of_val v (one_val 1074 0 refl) (sym (val_of_eq (one_val 1074 0 refl) v (passes (eq one x) c))) in
            rw (one_answer x u.double (is_true (eq x one) e)) zero_finite
        same_or false c l = above_one (is_true (lt one x) (lt_of_neither (one_val 1074 0 refl) (val_whole u.units.val) (fails c) (fails l)))

        below_or : (c : Bool) → lt x one ≡ c → Finite (f_erfcinv x)
        below_or true c = positive_finite_lem (f_erfcinv x) (low a c)
        below_or false c = same_or (eq one x) refl c
