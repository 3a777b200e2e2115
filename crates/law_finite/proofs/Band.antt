-- Request 2026-11: both ends of the band are finite, for every list of 2 to 128 times from 1 to 1,048,575 and every share from 1 to 999,999,
-- under the sample divisor. w / 1000000 lies between 0 and 1, so that `f_erfinv` there is `erf_core`'s answer with a plus sign. Assumes nothing.
use mathlib.Core.Path.{◌≡◌, refl, sym, ap, subst}
use mathlib.Core.Bool.{Bool, true, false}
use mathlib.Core.List.{List}
use Prim.Native.Nat.{ℕ, ◌+◌, ◌-◌, ◌*◌, ◌^◌, ◌≤◌, ◌<◌}
use native.Mathlib.Nat.{lt_of_lt_of_le, lt_of_le_of_lt}
use native.Mathlib.Omega.{arith}
use denote.Floats.{passes}
use lib.Dec.{lit<}
use lib.ListN.{length}
use lib.Ieee.{Float, nan, inf, fin, binary64, of_bits, div, eq, lt}
use lib.Ieee.Bits.{is_true}
use lib.Ieee.Exact.{HasValue}
use Rattle.facts.proofs.Tests.{refuted}
use Rattle.pxfm.specs.DoubleDouble.{one, new_of, to_f64}
use Rattle.pxfm.specs.Argument.{zero}
use Rattle.pxfm.specs.Inverfc.{erf_core}
use Rattle.pxfm.specs.Inverf.{with_sign, size_of, beyond_one, f_erfinv}
use Rattle.pxfm.proofs.Units.{val_whole}
use Rattle.pxfm.proofs.Order.{val_of_lt, val_of_eq, lt_of_val}
use Rattle.pxfm.proofs.Ranges.{zero_val, one_val}
use Rattle.pxfm.proofs.Signs.{below_one_within}
use Rattle.limit.specs.Times.{times_in_range, sum_of, squares_of}
use Rattle.limit.specs.Sums.{sums_of}
use Rattle.limit.specs.Formula.{double, sample_form, limit_from}
use Rattle.limit.proofs.InRange as range
use Rattle.limit.proofs.Plausible.{times_plausible}
use Rattle.band.specs.Band.{min_share, max_share, million, share_in_range, inverse_of, ends_from, ends_of, judge, band_of}
use Rattle.law_bounds.specs.Interval.{Interval, about, between, Holds, Inside, In}
use Rattle.law_bounds.specs.Ranges.{core_b, core_low_b, quantile_b}
use Rattle.law_bounds.proofs.Operations.{widen, counted, size_at_most}
use Rattle.law_bounds.proofs.Estimate.{pair_e, point, given, over_e, to_f64_e}
use Rattle.law_bounds.proofs.Pairs.{known, settle}
use Rattle.law_bounds.proofs.Whole.{whole_e}
use Rattle.law_bounds.proofs.Core.{core_in}
use Rattle.law_finite.specs.Finite.{FiniteBand, max_limit, SmallBand}
use Rattle.law_finite.proofs.Formula.{form_within}

-- ---- `f_erfinv` of a number between 0 and 1

size_itself : (x : Float) (n : ℕ) → HasValue x false n (2 ^ 1074) → size_of x ≡ x
unfolding with_sign
size_itself nan n v = absurd v
size_itself (inf s) n v = absurd v
size_itself (fin s m e) n v = ap (λ (t : Bool). fin t m e) (sym v.0)

-- These stand over variables: `omega` refuses the numeral 2 ^ 1074.
not_both : (a b : ℕ) → a < b → a + 0 ≡ 1 * b + 0 → ⊥
not_both a b h e = omega arith

below_it : (a b : ℕ) → a < b → a + 0 < 1 * b + 0
below_it a b h = omega arith

module _ (x : Float) (n : ℕ) (v : HasValue x false n (2 ^ 1074)) (low : 0 < n) (high : n < 2 ^ 1074) where
  not_zero : eq x zero ≡ false
  not_zero = refuted (eq x zero) (λ h. let e = val_of_eq (val_whole v) (zero_val 0) (passes (eq x zero) h) in absurd (omega arith))

  not_minus : lt x zero ≡ false
  not_minus = refuted (lt x zero) (λ h. let e = val_of_lt (val_whole v) (zero_val 0) (passes (lt x zero) h) in absurd (omega arith))

  not_one : eq x one ≡ false
  not_one = refuted (eq x one) (λ h. not_both n (2 ^ 1074) high (val_of_eq (val_whole v) (one_val 1074 0 refl) (passes (eq x one) h)))

  within_one : beyond_one x ≡ false
  within_one = below_one_within x (is_true (lt x one) (lt_of_val (val_whole v) (one_val 1074 0 refl) (below_it n (2 ^ 1074) high)))

  pub within_answer : f_erfinv x ≡ with_sign false (to_f64 (erf_core (new_of zero x)))
  unfolding f_erfinv
  within_answer = rw (size_itself x n v, not_zero, not_minus, not_one, within_one) refl

-- ---- the sign changes no bound on the size

size_held : (h m : ℕ) (s t : Bool) → Holds (about true h) s m → Holds (about true h) t m
size_held h m true true p = p
size_held h m false false p = p
size_held h m true false p = record { low = omega arith; high = omega (arith, p.low) }
size_held h m false true p = record { low = omega (arith, p.high); high = omega arith }

signed_value : (x : Float) (s t : Bool) (m : ℕ) → HasValue x s m (2 ^ 1074) → HasValue (with_sign t x) t m (2 ^ 1074)
unfolding with_sign
signed_value nan s t m v = absurd v
signed_value (inf r) s t m v = absurd v
signed_value (fin r k e) s t m v = (refl, v.1)

signed_in : (x : Float) (h : ℕ) (t : Bool) → In x (about true h) → In (with_sign t x) (about true h)
signed_in x h t p = record { at = λ o. go (p.at o) }
  where
    go : Inside x (about true h) → Inside (with_sign t x) (about true h)
    go i =
        record {
          s = t;
          m = i.m;
          val = signed_value x i.s t i.m i.val;
          holds = size_held h i.m i.s t i.holds;
        }

-- ---- the inverse error function of a share

-- from 2 ^ -20 to 1 - 33 * 2 ^ -25
abbrev pub share_b : Interval
share_b = between (2 ^ 1054) (2 ^ 1074 - 33 * 2 ^ 1049)

module _ (w : ℕ) (a : 1 ≤ w) (b : w ≤ 999999) where
  abbrev x : Float
  x = div binary64 (double w) (double million)

  pub share_in : In x share_b
  unfolding whole_e over_e
  share_in = widen share_b tt (over_e (whole_e w 1 999999 a b tt) (whole_e million 1000000 1000000 (omega arith) (omega arith) tt)).holds

  core_answer_in : In (to_f64 (erf_core (new_of zero x))) quantile_b
  unfolding to_f64_e point of_bits
  core_answer_in = widen quantile_b tt (to_f64_e (known (core_in _ (settle core_low_b core_b (pair_e (point zero) (given share_in)) tt)))).holds

  pub inverse_in : In (inverse_of w) quantile_b
  unfolding inverse_of
  inverse_in =
      let c = counted (2 ^ 1054) (2 ^ 1074 - 33 * 2 ^ 1049) (lit< tt) share_in in
      let e = within_answer x c.n c.val (lt_of_lt_of_le (lit< tt) c.low) (lt_of_le_of_lt c.high (lit< tt)) in
      subst (λ (y : Float). In y quantile_b) (sym e) (signed_in (to_f64 (erf_core (new_of zero x))) (4 * 2 ^ 1074) false core_answer_in)

-- ---- the band

pub small_band : (ts : List ℕ) (w : ℕ) → times_in_range ts ≡ true → share_in_range w ≡ true → SmallBand (length ts) (sum_of ts) (squares_of ts) w
unfolding sums_of share_in_range ends_of ends_from limit_from
small_band ts w r h =
    let i = inverse_in w (range.at_least min_share max_share w h) (range.at_most min_share max_share w h) in
    let e = (form_within (sums_of ts) (times_plausible ts r) sample_form).ends (inverse_of w) i in
    record { low = size_at_most max_limit e.below; high = size_at_most max_limit e.above }

pub finite_band : (ts : List ℕ) (w : ℕ) → times_in_range ts ≡ true → share_in_range w ≡ true → FiniteBand ts w
unfolding share_in_range band_of judge
finite_band ts w r h =
    let e = small_band ts w r h in
    record { low = e.low.is_finite; high = e.high.is_finite; given = rw (h, r) refl }
