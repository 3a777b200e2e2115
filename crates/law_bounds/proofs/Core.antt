-- `erf_core` of a pair from 0 to 1 - 33 * 2 ^ -25 is finite and at most 4 in size, on each of its four ways. Assumes nothing.
-- The Taylor polynomials divide by nothing. From 0.06 to 0.75 the variable is x² - 0.5625, which is not above 0, and there every term of the
-- denominators is positive, as their coefficients' signs alternate; in three parts, since numerator and denominator change much over the whole.
use mathlib.Core.Bool.{Bool, true, false, not, ◌&&◌}
use lib.Dec.{T}
use lib.Ieee.{Float, binary64, of_bits, le}
use lib.Ieee.Fits.{and_l, and_r}
use Rattle.pxfm.specs.declared.double_double.DoubleDouble.{DoubleDouble}
use Rattle.pxfm.specs.DoubleDouble.{from_bit_pair}
use Rattle.pxfm.specs.Polyeval.{f_polyeval4}
use Rattle.pxfm.specs.Rationals.{inverf0p06_to0p75}
use Rattle.pxfm.specs.Argument.{three_quarters}
use Rattle.pxfm.specs.Inverfc.{taylor, taylor4_of, taylor7_of, quick_rational, rounds_alike, middle_of, erf_core}
use Rattle.law_bounds.specs.Interval.{Interval}
use Rattle.law_bounds.specs.Ranges.{result_b, result_low_b, upper_b, upper_low_b, core_b, core_low_b, middle_b, first_b, second_b, third_b}
use Rattle.law_bounds.proofs.Operations.{widen}
use Rattle.law_bounds.proofs.Estimate.{Est, EstP, given, point, const_e, quick_mult_e, mul_add_e, mul_f64_add_e, fmla_e}
use Rattle.law_bounds.proofs.Tests.{below_of_le, below_of_not_le, cap_e, floor_e}
use Rattle.law_bounds.proofs.Rationals.{coef, slow_e, quick_e}
use Rattle.law_bounds.proofs.Pairs.{InP, known, within_p, settle, by_test_pair}
use Rattle.law_bounds.proofs.Tail.{tail_in}

-- ---- near 0

unfoldable pub taylor4_e : {x : DoubleDouble} → EstP x → EstP (taylor4_of x)
unfolding taylor taylor4_of quick_mult_e fmla_e mul_f64_add_e mul_add_e const_e point from_bit_pair of_bits
taylor4_e x =
    let z2 = quick_mult_e x x in
    let p = fmla_e z2.hi (point (of_bits binary64 0x3fb62847c47dda48)) (point (of_bits binary64 0x3fc053c2c0ab91c5)) in
    let r1 = mul_f64_add_e z2 p (coef taylor 1) in
    let r0 = mul_add_e z2 r1 (coef taylor 0) in
    quick_mult_e r0 x

unfoldable pub polyeval4_e : {x : Float} → Est x → (a0 a1 a2 a3 : Float) → Est (f_polyeval4 x a0 a1 a2 a3)
unfolding f_polyeval4 fmla_e point
polyeval4_e x a0 a1 a2 a3 = fmla_e x (fmla_e x (fmla_e x (point a3) (point a2)) (point a1)) (point a0)

unfoldable pub taylor7_e : {x : DoubleDouble} → EstP x → EstP (taylor7_of x)
unfolding taylor taylor7_of quick_mult_e polyeval4_e mul_f64_add_e mul_add_e const_e from_bit_pair of_bits
taylor7_e x =
    let z2 = quick_mult_e x x in
    let p =
    polyeval4_e z2.hi
    (of_bits binary64 0x3fb62847c47dda48)
    (of_bits binary64 0x3fb0a13189c6ef7a)
    (of_bits binary64 0x3faa7c85c89bb08b)
    (of_bits binary64 0x3fa5eeb1d488e312) in
    let r2 = mul_f64_add_e z2 p (coef taylor 2) in
    let r1 = mul_add_e z2 r2 (coef taylor 1) in
    let r0 = mul_add_e z2 r1 (coef taylor 0) in
    quick_mult_e r0 x

taylor4_in : (x : DoubleDouble) → InP x core_low_b core_b → InP (taylor4_of x) result_low_b result_b
unfolding taylor4_e
taylor4_in x h = settle result_low_b result_b (taylor4_e (known h)) tt

taylor7_in : (x : DoubleDouble) → InP x core_low_b core_b → InP (taylor7_of x) result_low_b result_b
unfolding taylor7_e
taylor7_in x h = settle result_low_b result_b (taylor7_e (known h)) tt

-- ---- up to 0.75, in three parts

record Middle (x : DoubleDouble) : Type 0 where
  quick : InP (quick_rational x) result_low_b result_b
  slow : InP (inverf0p06_to0p75 x) result_low_b result_b

middle_at : (x : DoubleDouble) (b : Interval) (h : InP x core_low_b b)
    → T (within_p (quick_e (known h)) result_low_b result_b && within_p (slow_e (known h)) result_low_b result_b) → Middle x
middle_at x b h t =
    let o = within_p (quick_e (known h)) result_low_b result_b in
    record { quick = settle result_low_b result_b (quick_e (known h)) (and_l o _ t); slow = settle result_low_b result_b (slow_e (known h)) (and_r o _ t) }

first_in : (x : DoubleDouble) → InP x core_low_b first_b → Middle x
unfolding quick_e slow_e
first_in x h = middle_at x first_b h tt

second_in : (x : DoubleDouble) → InP x core_low_b second_b → Middle x
unfolding quick_e slow_e
second_in x h = middle_at x second_b h tt

third_in : (x : DoubleDouble) → InP x core_low_b third_b → Middle x
unfolding quick_e slow_e
third_in x h = middle_at x third_b h tt

module _ (x : DoubleDouble) (h : InP x core_low_b middle_b) where
  abbrev half : Float
  half = of_bits binary64 0x3fe0_0000_0000_0000

  abbrev eleven_sixteenths : Float
  eleven_sixteenths = of_bits binary64 0x3fe6_0000_0000_0000

  middle : Middle x
  unfolding cap_e floor_e of_bits
  middle =
      on_test (le x.hi half) (λ t. first_in x (record { lo = h.lo; hi = widen first_b tt (cap_e half (below_of_le t) (given h.hi)).holds }))
      (λ s. on_test (le x.hi eleven_sixteenths)
      (λ t. second_in x
      (record { lo = h.lo; hi = widen second_b tt (cap_e eleven_sixteenths (below_of_le t) (floor_e half (below_of_not_le s) (given h.hi))).holds }))
      (λ t. third_in x (record { lo = h.lo; hi = widen third_b tt (floor_e eleven_sixteenths (below_of_not_le t) (given h.hi)).holds })))
    where
      on_test : (b : Bool) → (T b → Middle x) → (T (not b) → Middle x) → Middle x
      on_test true f g = f tt
      on_test false f g = g tt

  middle_in : InP (middle_of x) result_low_b result_b
  unfolding middle_of
  middle_in = by_test_pair result_low_b result_b (rounds_alike (quick_rational x)) (λ t. middle.quick) (λ t. middle.slow)

-- ---- the cuts

module _ (x : DoubleDouble) (h : InP x core_low_b core_b) where
  capped : T (le x.hi three_quarters) → InP x core_low_b middle_b
  unfolding cap_e of_bits
  capped t = record { lo = h.lo; hi = widen middle_b tt (cap_e three_quarters (below_of_le t) (given h.hi)).holds }

  floored : T (not (le x.hi three_quarters)) → InP x upper_low_b upper_b
  unfolding floor_e of_bits
  floored t = record { lo = h.lo; hi = widen upper_b tt (floor_e three_quarters (below_of_not_le t) (given h.hi)).holds }

pub core_in : (x : DoubleDouble) → InP x core_low_b core_b → InP (erf_core x) result_low_b result_b
unfolding erf_core
core_in x h =
    by_test_pair result_low_b result_b (le x.hi (of_bits binary64 0x3f83_74bc_6a7e_f9db)) (λ t. taylor4_in x h)
    (λ t. by_test_pair result_low_b result_b (le x.hi (of_bits binary64 0x3fae_b851_eb85_1eb8)) (λ t. taylor7_in x h)
    (λ t. by_test_pair result_low_b result_b (le x.hi three_quarters) (λ t. middle_in x (capped x h t)) (λ t. tail_in x (floored x h t))))
