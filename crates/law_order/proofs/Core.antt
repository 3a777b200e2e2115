-- `erf_core` is above zero for the pairs that it is given: those whose low part is zero, from 2 ^ -53 to 1 - 2 ^ -53, and those from 1 / 4 to 15 / 16
-- with a small low part. Assumes nothing.
use mathlib.Core.Path.{◌≡◌, refl, ap, ◌∙◌, subst}
use mathlib.Core.Bool.{Bool, true, false, not}
use Prim.Native.Nat.{ℕ, ◌+◌, ◌-◌, ◌*◌, ◌^◌, ◌≤◌, ◌<◌}
use native.Mathlib.Nat.{le_trans, lt_irrefl, lt_of_le_of_lt, lt_of_lt_of_le, mul-le-mul_right, zero-mul}
use native.Mathlib.Omega.{arith}
use lib.Dec.{T, lit<, lit≤}
use lib.Pow.{pow_pos}
use lib.Ieee.{Float, binary64, of_bits, neg, lt, le}
use lib.Ieee.Exact.{HasValue}
use Rattle.pxfm.specs.declared.double_double.DoubleDouble.{DoubleDouble}
use Rattle.pxfm.specs.DoubleDouble.{one, neg_of, from_full_exact_add, full_add_f64, to_f64}
use Rattle.pxfm.specs.Argument.{three_quarters}
use Rattle.pxfm.specs.Inverfc.{taylor4_of, taylor7_of, middle_of, tail_of, erf_core}
use Rattle.pxfm.proofs.Value.{Gap, Val}
use Rattle.pxfm.proofs.Units.{val_whole}
use Rattle.pxfm.proofs.Order.{lt_of_val}
use Rattle.pxfm.proofs.Ranges.{one_val, upper_quarter}
use Rattle.pxfm.proofs.Complement.{one_less}
use Rattle.law_bounds.specs.Interval.{In, between}
use Rattle.law_bounds.specs.Ranges.{every, reach_b, core_low_b, less_low_b}
use Rattle.law_bounds.proofs.Operations.{widen, counted, counted_in}
use Rattle.law_bounds.proofs.Estimate.{Est, given, pair_e, point, sum_e, neg_e, neg_pair_e, full_add_e, over_e}
use Rattle.law_bounds.proofs.Pairs.{InP, known, settle}
use Rattle.law_bounds.proofs.Tests.{below_of_le, below_of_not_le, cap_e, floor_e}
use Rattle.law_bounds.proofs.Logarithm.{share_in}
use Rattle.law_order.specs.Ranges.{above_b, zero_b, inside_b, Plain, rough_b}
use Rattle.law_order.proofs.Above.{mid_b, decide, by_way, middle_above, tail_above}
use Rattle.law_order.proofs.NearZero.{taylor4_above, taylor7_above}

-- ---- zeros, and whole numbers of 2 ^ -53

pub zero_of : {x : Float} {j : ℕ} → Val binary64 x 0 0 j → In x zero_b
zero_of {x = x} {j = j} v = go v.sign v.mag v.val v.gap
  where
    none : (s : Bool) → HasValue x s 0 (2 ^ 1074) → In x zero_b
    none false h = record { at = λ t. record { s = false; m = 0; val = h; holds = record { low = omega arith; high = omega arith } } }
    none true h = record { at = λ t. record { s = true; m = 0; val = h; holds = record { low = omega arith; high = omega arith } } }

    at_zero : (s : Bool) (m : ℕ) → m ≡ 0 → HasValue x s (m * 2 ^ j) (2 ^ 1074) → In x zero_b
    at_zero s m e h = none s (subst (λ (z : ℕ). HasValue x s z (2 ^ 1074)) (ap (λ (z : ℕ). z * 2 ^ j) e ∙ zero-mul (2 ^ j)) h)

    go : (s : Bool) (m : ℕ) → HasValue x s (m * 2 ^ j) (2 ^ 1074) → Gap s m 0 0 → In x zero_b
    go false m h g = at_zero false m (omega arith) h
    go true m h g = at_zero true m (omega arith) h

pub inside_of : {x : Float} {p n : ℕ} → Val binary64 x p n 1021 → n < p → p < n + 2 ^ 53 → In x inside_b
inside_of {x = x} {p = p} {n = n} v lo hi = go v.sign v.mag v.val v.gap
  where
    go : (s : Bool) (m : ℕ) → HasValue x s (m * 2 ^ 1021) (2 ^ 1074) → Gap s m p n → In x inside_b
    go false m h g =
        let a : 1 ≤ m = omega arith in
        let b : m ≤ 2 ^ 53 - 1 = omega arith in
        counted_in (2 ^ 1021) (2 ^ 1074 - 2 ^ 1021) (m * 2 ^ 1021) h (mul-le-mul_right (2 ^ 1021) a) (le_trans (mul-le-mul_right (2 ^ 1021) b) (lit≤ tt))
    go true m h g = absurd (omega arith)

-- ---- the first kind: the low part is zero

-- its complement, where it is above 3 / 4
module _ (d : DoubleDouble) (h : Plain d) (above : T (not (le d.hi three_quarters))) where
  below_one : T (lt d.hi one)
  below_one =
      let v = counted (2 ^ 1021) (2 ^ 1074 - 2 ^ 1021) (pow_pos 1021) h.hi in
      lt_of_val (val_whole v.val) (one_val 1074 0 refl) (plain v.n (2 ^ 1074) (lt_of_le_of_lt v.high (lit< tt)))
    where
      plain : (a b : ℕ) → a < b → a + 0 < 1 * b + 0
      plain a b h = omega arith

  rest_zero : In (from_full_exact_add (neg d.hi) one).lo zero_b
  rest_zero =
      let u = upper_quarter d.hi h.double below_one above in
      let lo : 3 * 2 ^ 51 < u.a = u.from in
      let hi : u.a < 2 ^ 53 = u.to in
      zero_of (one_less u.val (omega arith) (omega arith)).low

  rest_high : In (full_add_f64 (neg_of d) one).hi (between (2 ^ 1020) (3 * 2 ^ 1071))
  unfolding full_add_f64 neg_of from_full_exact_add floor_e sum_e neg_e point of_bits
  rest_high =
      let x = floor_e three_quarters (below_of_not_le above) (given h.hi) in
      decide (between (2 ^ 1020) (3 * 2 ^ 1071)) (sum_e (neg_e x) (point one)) tt

  rest_low : In (full_add_f64 (neg_of d) one).lo zero_b
  unfolding full_add_f64 neg_of sum_e neg_e
  rest_low = decide zero_b (sum_e (neg_e (given h.lo)) (given rest_zero)) tt

  plain_tail : In (to_f64 (tail_of d)) above_b
  unfolding over_e
  plain_tail =
      let t = full_add_f64 (neg_of d) one in
      tail_above d (decide (reach_b every) (given rest_high) tt) (share_in t (pair_e (given rest_low) (given rest_high)) tt)

module _ (d : DoubleDouble) (h : Plain d) where
  capped : (c : Float) → T (le d.hi c) → Est d.hi
  capped c t = cap_e c (below_of_le t) (given h.hi)

  plain_four : T (le d.hi (of_bits binary64 0x3f83_74bc_6a7e_f9db)) → In (to_f64 (taylor4_of d)) above_b
  unfolding capped cap_e of_bits
  plain_four t =
      let c = capped (of_bits binary64 0x3f83_74bc_6a7e_f9db) t in
      taylor4_above d h.lo (decide _ c tt) (decide _ c tt)

  plain_seven : T (le d.hi (of_bits binary64 0x3fae_b851_eb85_1eb8)) → In (to_f64 (taylor7_of d)) above_b
  unfolding capped cap_e of_bits
  plain_seven t =
      let c = capped (of_bits binary64 0x3fae_b851_eb85_1eb8) t in
      taylor7_above d h.lo (decide _ c tt) (decide _ c tt)

  plain_middle : T (not (le d.hi (of_bits binary64 0x3fae_b851_eb85_1eb8))) → T (le d.hi three_quarters) → In (to_f64 (middle_of d)) above_b
  unfolding cap_e floor_e of_bits
  plain_middle s t =
      let c = floor_e (of_bits binary64 0x3fae_b851_eb85_1eb8) (below_of_not_le s) (cap_e three_quarters (below_of_le t) (given h.hi)) in
      middle_above d (record { lo = widen core_low_b tt h.lo; hi = decide mid_b c tt })

  pub plain_above : In (to_f64 (erf_core d)) above_b
  unfolding erf_core
  plain_above =
      by_way (taylor4_of d) _ above_b (le d.hi (of_bits binary64 0x3f83_74bc_6a7e_f9db)) plain_four
      (λ s. by_way (taylor7_of d) _ above_b (le d.hi (of_bits binary64 0x3fae_b851_eb85_1eb8)) plain_seven
      (λ t. by_way (middle_of d) (tail_of d) above_b (le d.hi three_quarters) (plain_middle t) (plain_tail d h)))

-- ---- the second kind: from 1 / 4 to 15 / 16, with a small low part

-- no number lies in an interval whose ends are the other way round
never : {x : Float} (l h : ℕ) → h < l → 0 < l → In x (between l h) → ⊥
never l h less some i = let v = counted l h some i in lt_irrefl h (lt_of_lt_of_le less (le_trans v.low v.high))

module _ (d : DoubleDouble) (h : InP d core_low_b rough_b) where
  not_four : T (le d.hi (of_bits binary64 0x3f83_74bc_6a7e_f9db)) → ⊥
  unfolding cap_e of_bits
  not_four t =
      never (2 ^ 1072) (2 ^ 1070) (lit< tt) (pow_pos 1072)
      (decide (between (2 ^ 1072) (2 ^ 1070)) (cap_e (of_bits binary64 0x3f83_74bc_6a7e_f9db) (below_of_le t) (given h.hi)) tt)

  not_seven : T (le d.hi (of_bits binary64 0x3fae_b851_eb85_1eb8)) → ⊥
  unfolding cap_e of_bits
  not_seven t =
      never (2 ^ 1072) (2 ^ 1070) (lit< tt) (pow_pos 1072)
      (decide (between (2 ^ 1072) (2 ^ 1070)) (cap_e (of_bits binary64 0x3fae_b851_eb85_1eb8) (below_of_le t) (given h.hi)) tt)

  rough_middle : T (le d.hi three_quarters) → In (to_f64 (middle_of d)) above_b
  unfolding cap_e of_bits
  rough_middle t = middle_above d (record { lo = h.lo; hi = decide mid_b (cap_e three_quarters (below_of_le t) (given h.hi)) tt })

  rough_rest : T (not (le d.hi three_quarters)) → InP (full_add_f64 (neg_of d) one) less_low_b (between (2 ^ 1069) (3 * 2 ^ 1071))
  unfolding full_add_e neg_pair_e floor_e point of_bits
  rough_rest t =
      let x = floor_e three_quarters (below_of_not_le t) (given h.hi) in
      settle less_low_b (between (2 ^ 1069) (3 * 2 ^ 1071)) (full_add_e (neg_pair_e (pair_e (given h.lo) x)) (point one)) tt

  rough_tail : T (not (le d.hi three_quarters)) → In (to_f64 (tail_of d)) above_b
  unfolding over_e
  rough_tail t =
      let r = rough_rest t in
      tail_above d (decide (reach_b every) (given r.hi) tt) (share_in (full_add_f64 (neg_of d) one) (known r) tt)

  pub rough_above : In (to_f64 (erf_core d)) above_b
  unfolding erf_core
  rough_above =
      by_way (taylor4_of d) _ above_b (le d.hi (of_bits binary64 0x3f83_74bc_6a7e_f9db)) (λ s. absurd (not_four s))
      (λ s. by_way (taylor7_of d) _ above_b (le d.hi (of_bits binary64 0x3fae_b851_eb85_1eb8)) (λ t. absurd (not_seven t))
      (λ t. by_way (middle_of d) (tail_of d) above_b (le d.hi three_quarters) rough_middle rough_tail))
