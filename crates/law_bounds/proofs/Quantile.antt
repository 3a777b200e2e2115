-- The quantile is finite, and at most 4 in size, from 2 ^ -20 to 2 - 2 ^ -19: `f_erfcinv` by its tests, and the pair that it hands to
-- `erf_core`. Assumes nothing.
use mathlib.Core.Path.{◌≡◌, refl, sym}
use mathlib.Core.Bool.{Bool, true, false, true≢false, not, cond}
use Prim.Native.Nat.{ℕ, ◌+◌, ◌-◌, ◌*◌, ◌^◌, ◌≤◌, ◌<◌}
use native.Mathlib.Nat.{lt_of_le_of_lt}
use native.Mathlib.Omega.{arith}
use lib.Dec.{T, lit<}
use lib.Pow.{pow_pos}
use lib.Ieee.{Float, nan, inf, fin, binary64, fits, of_bits, sub, lt, le, eq}
use lib.Ieee.Exact.{HasValue}
use lib.Ieee.Scale.{finite}
use denote.Floats.{passes}
use Rattle.facts.proofs.Tests.{refuted}
use Rattle.pxfm.specs.declared.double_double.DoubleDouble.{DoubleDouble}
use Rattle.pxfm.specs.DoubleDouble.{new_of, one, two, from_full_exact_add, from_full_exact_sub, to_f64}
use Rattle.pxfm.specs.Argument.{zero, tenth, mirrored_of, complement, core_argument}
use Rattle.pxfm.specs.Inverfc.{inverfc_extra_small, sign_of, central_of, f_erfcinv}
use Rattle.pxfm.proofs.Units.{in_units, val_whole}
use Rattle.pxfm.proofs.Order.{val_of_eq}
use Rattle.pxfm.proofs.Bits.{BelowTwo}
use Rattle.pxfm.proofs.Ranges.{zero_val, two_val}
use Rattle.pxfm.proofs.FirstTests.{within_inside}
use Rattle.law_bounds.specs.Interval.{In, SizeAtMost, about}
use Rattle.law_bounds.specs.Quantile.{least_argument, most_argument, OrdinaryArgument}
use Rattle.law_bounds.specs.Ranges.{usual, deep, reach_b, core_b, core_low_b, argument_b, quantile_b, deep_quantile_b}
use Rattle.law_bounds.proofs.Operations.{widen, counted, finite_of, size_at_most}
use Rattle.law_bounds.proofs.Estimate.{Est, EstP, given, pair_e, point, neg_e, times_e, neg_pair_e, exact_add_e, full_exact_add_e, full_add_e, to_f64_e}
use Rattle.law_bounds.proofs.Pairs.{InP, known, settle, by_test_lem}
use Rattle.law_bounds.proofs.Tests.{below_of_lt, below_of_le, below_of_not_lt, cap_e, floor_e}
use Rattle.law_bounds.proofs.Tail.{extra_small_in}
use Rattle.law_bounds.proofs.Core.{core_in}

-- ---- the way below 0.1, down to 2 ^ -52

pub small_in : (x : Float) → In x (reach_b deep) → In (to_f64 (inverfc_extra_small x)) deep_quantile_b
unfolding to_f64_e
small_in x h = widen deep_quantile_b tt (to_f64_e (known (extra_small_in deep x h))).holds

-- ---- the pair for `erf_core`

unfoldable full_exact_sub_e : {x y : Float} → Est x → Est y → EstP (from_full_exact_sub x y)
unfolding from_full_exact_sub from_full_exact_add sub full_exact_add_e neg_e
full_exact_sub_e p q = full_exact_add_e p (neg_e q)

unfoldable pub complement_e : {d : DoubleDouble} → EstP d → EstP (complement d)
unfolding complement full_add_e neg_pair_e exact_add_e point of_bits
complement_e d = let t = full_add_e (neg_pair_e d) (point one) in exact_add_e t.hi t.lo

module _ (x : Float) (h : In x argument_b) where
  above_one : T (lt one x) → InP (complement (from_full_exact_sub two x)) core_low_b core_b
  unfolding complement_e full_exact_sub_e floor_e point of_bits
  above_one t = settle core_low_b core_b (complement_e (full_exact_sub_e (point two) (floor_e one (below_of_lt t) (given h)))) tt

  up_to_one : T (not (lt x tenth)) → T (not (lt one x)) → InP (complement (new_of zero x)) core_low_b core_b
  unfolding complement_e cap_e floor_e point of_bits
  up_to_one s t =
      let y = floor_e tenth (below_of_not_lt s) (cap_e one (below_of_not_lt t) (given h)) in
      settle core_low_b core_b (complement_e (pair_e (point zero) y)) tt

  core_argument_in : T (not (lt x tenth)) → InP (core_argument x) core_low_b core_b
  unfolding core_argument mirrored_of
  core_argument_in s = go (lt one x) above_one (up_to_one s)
    where
      go : (b : Bool) → (T b → InP (complement (from_full_exact_sub two x)) core_low_b core_b)
          → (T (not b) → InP (complement (new_of zero x)) core_low_b core_b)
          → InP (complement (cond b (from_full_exact_sub two x) (new_of zero x))) core_low_b core_b
      go true f g = f tt
      go false f g = g tt

  -- ---- the two ways of `f_erfcinv`

  sign_in : In (sign_of x) (about true (2 ^ 1074))
  unfolding sign_of point neg_e of_bits
  sign_in = by_test_lem (about true (2 ^ 1074)) (lt one x) (λ t. widen _ tt (neg_e (point one)).holds) (λ t. widen _ tt (point one).holds)

  from_tenth : T (not (lt x tenth)) → In (central_of x) quantile_b
  unfolding central_of times_e to_f64_e
  from_tenth s = widen quantile_b tt (times_e (to_f64_e (known (core_in (core_argument x) (core_argument_in s)))) (given sign_in)).holds

  below_tenth : T (lt x tenth) → In (to_f64 (inverfc_extra_small x)) quantile_b
  unfolding to_f64_e cap_e of_bits
  below_tenth t =
      let y = widen (reach_b usual) tt (cap_e tenth (below_of_lt t) (given h)).holds in
      widen quantile_b tt (to_f64_e (known (extra_small_in usual x y))).holds

-- ---- the tests before them

some : (a n : ℕ) → 0 < a → a ≤ n → n + 0 ≡ 0 + 0 → ⊥
some a n A l e = omega arith

less : (n b : ℕ) → n < b → n + 0 ≡ 1 * b + 0 → ⊥
less n b l e = omega arith

pub quantile_in : (x : Float) → In x argument_b → In (f_erfcinv x) quantile_b
unfolding f_erfcinv point of_bits
quantile_in x h =
    let v = counted (2 ^ 1054) (2 ^ 1075 - 2 ^ 1055) (pow_pos 1054) h in
    let u : BelowTwo x = record { a = v.n; val = v.val; high = lt_of_le_of_lt v.high (lit< tt) } in
    let not_zero =
    refuted (eq x zero)
    (λ e. some (2 ^ 1054) v.n (pow_pos 1054) v.low (val_of_eq (val_whole v.val) (zero_val 0) (passes (eq x zero) e))) in
    let not_two = refuted (eq x two) (λ e. less v.n (2 ^ 1075) u.high (val_of_eq (val_whole v.val) (two_val 1075 0 refl) (passes (eq x two) e))) in
    rw (not_zero, not_two, within_inside x u)
    (by_test_lem quantile_b (eq x one) (λ t. widen quantile_b tt (point zero).holds)
    (λ t. by_test_lem quantile_b (lt x tenth) (below_tenth x h) (from_tenth x h)))

-- ---- the same of doubles, by comparisons

least_value : HasValue least_argument false (2 ^ 1054) (2 ^ 1074)
unfolding of_bits
least_value = (refl, refl)

most_value : HasValue most_argument false (2 ^ 1075 - 2 ^ 1055) (2 ^ 1074)
unfolding of_bits
most_value = (refl, refl)

pub ordinary_in : (x : Float) → OrdinaryArgument x → In x argument_b
ordinary_in nan h = absurd (unfold le lt eq of_bits in true≢false (sym h.from))
ordinary_in (inf true) h = absurd (unfold le lt eq of_bits in true≢false (sym h.from))
ordinary_in (inf false) h = absurd (unfold le lt eq of_bits in true≢false (sym h.to))
ordinary_in (fin s m e) h =
    let u = in_units s m e (passes (fits binary64 (fin s m e)) h.double) in
    let n = m * 2 ^ u.w in
    let low = (below_of_le (passes (le least_argument (fin s m e)) h.from)).le false s (2 ^ 1054) n least_value u.val in
    let high = (below_of_le (passes (le (fin s m e) most_argument) h.to)).le s false n (2 ^ 1075 - 2 ^ 1055) u.val most_value in
    record { at = λ t. record { s = s; m = n; val = u.val; holds = record { low = low; high = high } } }

pub quantile_finite : (x : Float) → OrdinaryArgument x → T (finite (f_erfcinv x))
quantile_finite x h = finite_of (quantile_in x (ordinary_in x h)) tt

-- Document 01's quantile is at most 4 in size.
pub quantile_at_most_four : (x : Float) → OrdinaryArgument x → SizeAtMost (f_erfcinv x) 4
quantile_at_most_four x h = size_at_most 4 (quantile_in x (ordinary_in x h))
