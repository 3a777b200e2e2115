-- Request 2026-13, for every double x strictly between 1 and 2: 2 - x is exact, and the quantile at x has the bits of that at 2 - x with the sign
-- bit flipped. Where 2 - x is at least 0.1, both sides have the same pair and the same pieces at the same cuts; where it is below, each takes its
-- own logarithm and its own cut, which come to the same. Above 1 the answer is multiplied by -1 last; it is finite, so it is no NaN. Assumes nothing.
use mathlib.Core.Path.{◌≡◌, refl, sym, ap, ◌∙◌, subst}
use mathlib.Core.Bool.{Bool, true, false, true≢false}
use Prim.Native.Nat.{ℕ, ◌+◌, ◌-◌, ◌*◌, ◌^◌, ◌≤◌, ◌<◌}
use native.Mathlib.Nat.{le_trans, mul-le-mul_right}
use native.Mathlib.Omega.{arith}
use lib.Dec.{T, lit≤}
use lib.IntN.{◌-ℤ◌}
use lib.Pow.{shl_lt}
use lib.Ieee.{Float, nan, inf, fin, binary64, fits, of_bits, to_bits, is_nan, neg, add, sub, mul, lt, le, eq}
use lib.Ieee.Exact.{HasValue}
use lib.Ieee.Fits.{add-fits}
use lib.Ieee.Scale.{finite}
use denote.Floats.{passes}
use Rattle.facts.proofs.Tests.{refuted}
use Rattle.pxfm.specs.declared.double_double.DoubleDouble.{DoubleDouble}
use Rattle.pxfm.specs.DoubleDouble.{one, two, new_of, from_full_exact_sub, to_f64}
use Rattle.pxfm.specs.Argument.{zero, tenth, complement}
use Rattle.pxfm.specs.FastLogDd.{fast_log_dd}
use Rattle.pxfm.specs.Inverfc.{middle_of, asymptotic, tail_of, erf_core, inverfc_extra_small, central_of, f_erfcinv}
use Rattle.pxfm.proofs.Value.{Gap, Val}
use Rattle.pxfm.proofs.Units.{in_units, val_whole, val_whole_negative}
use Rattle.pxfm.proofs.Order.{val_of_lt, val_of_not_lt, val_of_eq}
use Rattle.pxfm.proofs.Bits.{BelowTwo}
use Rattle.pxfm.proofs.Ranges.{zero_val, one_val, two_val, tenth_val, AboveOne, above_one}
use Rattle.pxfm.proofs.Complement.{two_less, two_less_pair}
use Rattle.pxfm.proofs.Answers.{inside_answer}
use Rattle.law_exact.specs.Scaled.{scaled}
use Rattle.law_bounds.specs.Interval.{In, SizeAtMost}
use Rattle.law_bounds.specs.Ranges.{deep, reach_b, argument_b, deep_quantile_b}
use Rattle.law_bounds.proofs.Operations.{counted_in, widen, finite_of, size_at_most}
use Rattle.law_bounds.proofs.Estimate.{given, neg_e}
use Rattle.law_bounds.proofs.Quantile.{small_in, quantile_in}
use Rattle.law_mirror.specs.Sides.{near_one, near_zero, small_side, lower_side, upper_side}
use Rattle.law_mirror.specs.Mirror.{flip_sign, mirror_of, Mirrored, Mirror}
use Rattle.law_exact.proofs.Integers.{difference_unique, difference_less, scaled_difference}
use Rattle.law_mirror.proofs.Finer.{val_finer}
use Rattle.law_mirror.proofs.Sign.{mul_minus_one_is, neg_bits}
use Rattle.law_mirror.proofs.Back.{less_val, complement_pair, back_pair}
use Rattle.law_mirror.proofs.Cuts.{above_cuts, cuts_same}
use Rattle.law_mirror.proofs.Logs.{asymptotic_same}
use Rattle.law_mirror.proofs.Sides.{lower_fits, small_fits, small_side_lem, lower_side_lem, upper_side_lem}

-- ---- the last branch of the quantile

-- x is between 0 and 2, in units of 2 ^ -53, and is not 1.
module _ {x : Float} {p n : ℕ} (v : Val binary64 x p n 1021) (f : T (fits binary64 x)) (u : BelowTwo x) (lo : n < p) (ne : p ≡ n + 2 ^ 53 → ⊥) where
  not_zero : eq x zero ≡ false
  not_zero = refuted (eq x zero) (λ r. let e = val_of_eq v (zero_val 1021) (passes (eq x zero) r) in absurd (omega arith))

  not_one : eq x one ≡ false
  not_one = refuted (eq x one) (λ r. ne (let e = val_of_eq v (one_val 53 1021 refl) (passes (eq x one) r) in omega arith))

  central_answer : lt x tenth ≡ false → f_erfcinv x ≡ central_of x
  central_answer nl = inside_answer x f u not_zero ∙ rw (not_one, nl) refl

  small_answer : lt x tenth ≡ true → f_erfcinv x ≡ to_f64 (inverfc_extra_small x)
  small_answer l = inside_answer x f u not_zero ∙ rw (not_one, l) refl

-- ---- x and 2 - x, in units of 2 ^ -53

-- x is finite and above 1, so it is not negative; and it is below 2.
between : (x : Float) → Mirrored x → BelowTwo x
between nan h = absurd (unfold lt of_bits in true≢false (sym h.above_one))
between (inf true) h = absurd (unfold lt of_bits in true≢false (sym h.above_one))
between (inf false) h = absurd (unfold lt of_bits in true≢false (sym h.below_two))
between (fin true m e) h =
    let u = in_units true m e (passes (fits binary64 (fin true m e)) h.double) in
    absurd (never (1 * 2 ^ 1074) (m * 2 ^ u.w) (val_of_lt (one_val 1074 0 refl) (val_whole_negative u.val) (passes (lt one (fin true m e)) h.above_one)))
  where
    never : (a b : ℕ) → a + b < 0 + 0 → ⊥
    never a b h = omega arith
between (fin false m e) h =
    let u = in_units false m e (passes (fits binary64 (fin false m e)) h.double) in
    record {
      a = m * 2 ^ u.w;
      val = u.val;
      high = plain (m * 2 ^ u.w) (2 ^ 1075) (val_of_lt (val_whole u.val) (two_val 1075 0 refl) (passes (lt (fin false m e) two) h.below_two));
    }
  where
    plain : (a b : ℕ) → a + 0 < 1 * b + 0 → a < b
    plain a b h = omega arith

upper : (x : Float) → Mirrored x → AboveOne x
upper x h = above_one x (passes (fits binary64 x) h.double) (between x h) (passes (lt one x) h.above_one)

pub mirror_exact : (x : Float) → Mirrored x → scaled (mirror_of x) ≡ scaled two -ℤ scaled x
mirror_exact x h =
    let u = upper x h in
    difference_unique (sum (2 ^ 54) (2 * u.a) (2 ^ 1021)) (scaled_difference (two_less u.val u.from u.to))
    (difference_less (scaled_difference (two_val 54 1021 refl)) (scaled_difference u.val))
  where
    sum : (t a u : ℕ) → t * u + (0 * u + a * u) ≡ 1 * t * u + 0 * u + a * u
    sum t a u = omega arith

-- ---- the two sides

-- y is 2 ^ 54 - 2 * a units of 2 ^ -53, as a number that is not negative.
record Fraction (y : Float) (a : ℕ) : Type 0 where
  m : ℕ
  val : HasValue y false (m * 2 ^ 1021) (2 ^ 1074)
  sum : m + 2 * a ≡ 2 ^ 54

module _ (x : Float) (h : Mirrored x) where
  abbrev y : Float
  y = mirror_of x

  abbrev x_units : AboveOne x
  x_units = upper x h

  y_val : Val binary64 y (2 ^ 54) (2 * x_units.a) 1021
  y_val = two_less x_units.val x_units.from x_units.to

  y_fits : T (fits binary64 y)
  unfolding sub
  y_fits = add-fits binary64 two (neg x)

  -- 2 - x is above 0 and below 1
  y_bounds : (2 * x_units.a < 2 ^ 54) × (2 ^ 54 < 2 * x_units.a + 2 ^ 53)
  y_bounds =
      let lo : 2 ^ 52 < x_units.a = x_units.from in
      let hi : x_units.a < 2 ^ 53 = x_units.to in
      (omega arith, omega arith)

  y_units : Fraction y x_units.a
  y_units = go y_val.sign y_val.val y_val.gap
    where
      go : (s : Bool) → HasValue y s (y_val.mag * 2 ^ 1021) (2 ^ 1074) → Gap s y_val.mag (2 ^ 54) (2 * x_units.a) → Fraction y x_units.a
      go false v g = record { m = y_val.mag; val = v; sum = g }
      go true v g = let b = y_bounds in absurd (omega arith)

  y_below : BelowTwo y
  y_below =
      let u = y_units in
      record { a = u.m * 2 ^ 1021; val = u.val; high = shl_lt 54 1021 (omega (arith, u.sum, x_units.from)) }

  not_above_one : lt one y ≡ false
  not_above_one =
      let b = y_bounds in
      refuted (lt one y) (λ l. let z = val_of_lt (one_val 53 1021 refl) y_val (passes (lt one y) l) in omega arith)

  pair_mirror : from_full_exact_sub two x ≡ new_of zero y
  pair_mirror = two_less_pair x_units.val x_units.from x_units.to (passes (fits binary64 x) h.double)

  upper_core : upper_side x ≡ mul binary64 (to_f64 (erf_core (complement (new_of zero y)))) (neg one)
  unfolding upper_side erf_core middle_of tail_of
  upper_core = ap (λ (d : DoubleDouble). mul binary64 (to_f64 (erf_core (complement d))) (neg one)) pair_mirror

  -- From 0.1: the same pair on both sides, the same pieces at the same cuts, and the sign last.
  sides_mirror : upper_side x ≡ neg (lower_side y)
  unfolding lower_side erf_core middle_of tail_of
  sides_mirror = upper_core ∙ mul_minus_one_is (lower_side y) (lower_fits y)

  -- ---- below 0.1

  -- 1 - (2 - x)
  abbrev o : Float
  o = add binary64 (neg y) one

  o_val : Val binary64 o (2 ^ 53 + 2 * x_units.a) (2 ^ 54) 1021
  o_val = less_val y_val y_bounds.0 y_bounds.1 y_fits

  y_deep : lt y tenth ≡ true → In y (reach_b deep)
  y_deep l =
      let u = y_units in
      let b = y_bounds in
      let z = val_of_lt (val_finer 3 1018 y_val) (tenth_val 0 1018 refl) (passes (lt y tenth) l) in
      let least : 2 ≤ u.m = omega (arith, u.sum) in
      let most : u.m ≤ 3 * 2 ^ 50 = omega (arith, u.sum) in
      counted_in (2 ^ 1022) (3 * 2 ^ 1071) (u.m * 2 ^ 1021) u.val (mul-le-mul_right (2 ^ 1021) least) (mul-le-mul_right (2 ^ 1021) most)

  -- The tail of `erf_core`, by the logarithm of the pair of 2 - x and +0.
  core_small : lt y tenth ≡ true → erf_core (complement (new_of zero y)) ≡ inverfc_extra_small y
  unfolding erf_core tail_of inverfc_extra_small
  core_small l =
      let c = above_cuts x_units.a y_val o_val l in
      ap erf_core (complement_pair y_val y_bounds.0 y_bounds.1 y_fits)
      ∙ rw (c.four, c.seven, c.quarters) refl
      ∙ ap (λ (d : DoubleDouble). asymptotic (fast_log_dd d) (lt o near_one)) (back_pair y_val y_bounds.0 y_bounds.1 y_fits)
      ∙ ap (λ (b : Bool). asymptotic (fast_log_dd (new_of zero y)) b) (cuts_same x_units.a y_val o_val)
      ∙ sym (asymptotic_same y (y_deep l) (le near_zero y))

  small_mirror : lt y tenth ≡ true → upper_side x ≡ neg (small_side y)
  small_mirror l =
      upper_core
      ∙ ap (λ (d : DoubleDouble). mul binary64 (to_f64 d) (neg one)) (core_small l)
      ∙ ap (λ (z : Float). mul binary64 z (neg one)) (small_side_lem y)
      ∙ mul_minus_one_is (small_side y) (small_fits y)

  -- ---- the quantile at both

  x_from_tenth : lt x tenth ≡ false
  x_from_tenth =
      let lo : 2 ^ 52 < x_units.a = x_units.from in
      refuted (lt x tenth)
      (λ l. let z = val_of_lt (val_finer 3 1018 x_units.val) (tenth_val 0 1018 refl) (passes (lt x tenth) l) in omega arith)

  quantile_x : f_erfcinv x ≡ upper_side x
  quantile_x =
      let lo : 2 ^ 52 < x_units.a = x_units.from in
      central_answer x_units.val (passes (fits binary64 x) h.double) (between x h) (omega arith) (λ e. absurd (omega arith)) x_from_tenth
      ∙ upper_side_lem x h.above_one

  small_y : lt y tenth ≡ true → f_erfcinv y ≡ small_side y
  small_y l = let b = y_bounds in small_answer y_val y_fits y_below b.0 (λ e. absurd (omega arith)) l ∙ small_side_lem y

  lower_y : lt y tenth ≡ false → f_erfcinv y ≡ lower_side y
  lower_y l = let b = y_bounds in central_answer y_val y_fits y_below b.0 (λ e. absurd (omega arith)) l ∙ lower_side_lem y not_above_one

  y_ordinary : lt y tenth ≡ false → In y argument_b
  y_ordinary l =
      let u = y_units in
      let b = y_bounds in
      let z = val_of_not_lt (val_finer 3 1018 y_val) (tenth_val 0 1018 refl) (rw l tt) in
      let least : 2 ^ 33 ≤ u.m = omega (arith, u.sum) in
      let most : u.m ≤ 2 ^ 53 = omega (arith, u.sum) in
      counted_in (2 ^ 1054) (2 ^ 1075 - 2 ^ 1055) (u.m * 2 ^ 1021) u.val (mul-le-mul_right (2 ^ 1021) least)
      (le_trans (mul-le-mul_right (2 ^ 1021) most) (lit≤ tt))

-- ---- the mirror

-- The answer at 2 - x by one of its sides, at most 7 in size, and that at x, which has the other sign.
record Answers (x : Float) : Type 0 where
  side : Float
  there : f_erfcinv (mirror_of x) ≡ side
  here : f_erfcinv x ≡ neg side
  double : T (fits binary64 side)
  held : In side deep_quantile_b

answers : (x : Float) → Mirrored x → Answers x
answers x h = go (lt (mirror_of x) tenth) refl
  where
    go : (b : Bool) → lt (mirror_of x) tenth ≡ b → Answers x
    go true l =
        record {
          side = small_side (mirror_of x);
          there = small_y x h l;
          here = quantile_x x h ∙ small_mirror x h l;
          double = small_fits (mirror_of x);
          held = subst (λ (z : Float). In z deep_quantile_b) (small_side_lem (mirror_of x)) (small_in (mirror_of x) (y_deep x h l));
        }
    go false l =
        record {
          side = lower_side (mirror_of x);
          there = lower_y x h l;
          here = quantile_x x h ∙ sides_mirror x h;
          double = lower_fits (mirror_of x);
          held = subst (λ (z : Float). In z deep_quantile_b) (lower_y x h l) (widen deep_quantile_b tt (quantile_in (mirror_of x) (y_ordinary x h l)));
        }

finite_plain : (x : Float) → T (finite x) → is_nan x ≡ false
unfolding is_nan
finite_plain nan f = absurd f
finite_plain (inf s) f = refl
finite_plain (fin s m e) f = refl

pub mirror : (x : Float) → Mirrored x → Mirror x
mirror x h =
    let a = answers x h in
    record {
      exact = mirror_exact x h;
      flipped =
          ap (to_bits binary64) a.here
          ∙ neg_bits a.side a.double (finite_plain a.side (finite_of a.held tt))
          ∙ ap (λ (z : Float). flip_sign (to_bits binary64 z)) (sym a.there);
    }

-- Both answers are finite, and at most 7 in size.
size_neg : (y : Float) → In y deep_quantile_b → SizeAtMost (neg y) 7
unfolding neg_e
size_neg y h = size_at_most 7 (widen deep_quantile_b tt (neg_e (given h)).holds)

pub mirror_at_most_seven : (x : Float) → Mirrored x → SizeAtMost (f_erfcinv x) 7 × SizeAtMost (f_erfcinv (mirror_of x)) 7
mirror_at_most_seven x h =
    let a = answers x h in (
      subst (λ (z : Float). SizeAtMost z 7) (sym a.here) (size_neg a.side a.held),
      subst (λ (z : Float). SizeAtMost z 7) (sym a.there) (size_at_most 7 a.held),
    )

pub mirror_finite : (x : Float) → Mirrored x → T (finite (f_erfcinv x)) × T (finite (f_erfcinv (mirror_of x)))
mirror_finite x h = let s = mirror_at_most_seven x h in (s.0.is_finite, s.1.is_finite)
