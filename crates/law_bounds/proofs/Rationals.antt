-- The rationals of the quantile, estimated step by step. Assumes nothing.
use Prim.Native.Nat.{ℕ}
use mathlib.Core.List.{List}
use lib.Ieee.{Float, binary64, of_bits}
use Rattle.pxfm.specs.declared.double_double.DoubleDouble.{DoubleDouble}
use Rattle.pxfm.specs.DoubleDouble.{one, from_bit_pair}
use Rattle.pxfm.specs.Polyeval.{f_polyeval5}
use Rattle.pxfm.specs.Rationals.{at, paired10, paired11, paired14, p0p06_to0p75, q0p06_to0p75, p_asympt_small, q_asympt_small, p_asympt_long, q_asympt_long}
use Rattle.pxfm.specs.Rationals.{centred_of, inverf0p06_to0p75, inverf_asympt_small, inverf_asympt_long}
use Rattle.pxfm.specs.Inverfc.{horner10, quick_rational}
use Rattle.law_bounds.proofs.Estimate.{Est, EstP, point, const_e, neg_e, full_add_e, quick_mult_e, mul_add_e, mul_add_f64_e, mul_f64_add_e, div_e, fmla_e}

-- The coefficient at a place.
abbrev pub coef : (t : List DoubleDouble) (i : ℕ) → EstP (at t i)
coef t i = const_e (at t i)

-- ---- the two asymptotic rationals

unfoldable pub paired14_e :
    (t : List DoubleDouble) {x x2 x4 x8 : DoubleDouble} → EstP x → EstP x2 → EstP x4 → EstP x8 → EstP (paired14 t x x2 x4 x8)
unfolding paired14 mul_add_e const_e
paired14_e t z z2 z4 z8 =
    let g0 = mul_add_e z (coef t 1) (coef t 0) in
    let g1 = mul_add_e z (coef t 3) (coef t 2) in
    let g2 = mul_add_e z (coef t 5) (coef t 4) in
    let g3 = mul_add_e z (coef t 7) (coef t 6) in
    let g4 = mul_add_e z (coef t 9) (coef t 8) in
    let g5 = mul_add_e z (coef t 11) (coef t 10) in
    let g6 = mul_add_e z (coef t 13) (coef t 12) in
    let h0 = mul_add_e z2 g1 g0 in
    let h1 = mul_add_e z2 g3 g2 in
    let h2 = mul_add_e z2 g5 g4 in
    let q0 = mul_add_e z4 h1 h0 in
    let q1 = mul_add_e z4 g6 h2 in
    mul_add_e z8 q1 q0

unfoldable pub long_e : {x y : DoubleDouble} → EstP x → EstP y → EstP (inverf_asympt_long x y)
unfolding inverf_asympt_long quick_mult_e div_e paired14_e p_asympt_long q_asympt_long from_bit_pair
long_e z root =
    let z2 = quick_mult_e z z in
    let z4 = quick_mult_e z2 z2 in
    let z8 = quick_mult_e z4 z4 in
    quick_mult_e (div_e (paired14_e p_asympt_long z z2 z4 z8) (paired14_e q_asympt_long z z2 z4 z8)) root

unfoldable pub paired11_e :
    (t : List DoubleDouble) {q x x2 x4 x8 : DoubleDouble} → EstP q → EstP x → EstP x2 → EstP x4 → EstP x8 → EstP (paired11 t q x x2 x4 x8)
unfolding paired11 mul_add_e const_e
paired11_e t q0 z z2 z4 z8 =
    let q1 = mul_add_e (coef t 3) z (coef t 2) in
    let q2 = mul_add_e (coef t 5) z (coef t 4) in
    let q3 = mul_add_e (coef t 7) z (coef t 6) in
    let q4 = mul_add_e (coef t 9) z (coef t 8) in
    let r0 = mul_add_e z2 q1 q0 in
    let r1 = mul_add_e z2 q3 q2 in
    let s0 = mul_add_e z4 r1 r0 in
    let s1 = mul_add_e z2 (coef t 10) q4 in
    mul_add_e z8 s1 s0

unfoldable pub small_e : {x y : DoubleDouble} → EstP x → EstP y → EstP (inverf_asympt_small x y)
unfolding inverf_asympt_small quick_mult_e div_e paired11_e mul_add_e mul_add_f64_e p_asympt_small q_asympt_small from_bit_pair
small_e z root =
    let z2 = quick_mult_e z z in
    let z4 = quick_mult_e z2 z2 in
    let z8 = quick_mult_e z4 z4 in
    let num = paired11_e p_asympt_small (mul_add_e (coef p_asympt_small 1) z (coef p_asympt_small 0)) z z2 z4 z8 in
    let den = paired11_e q_asympt_small (mul_add_f64_e (coef q_asympt_small 1) z (point one)) z z2 z4 z8 in
    quick_mult_e (div_e num den) root

-- ---- the two rationals from 0.06 to 0.75

unfoldable pub centred_e : {x : DoubleDouble} → EstP x → EstP (centred_of x)
unfolding centred_of full_add_e quick_mult_e neg_e point of_bits
centred_e x = full_add_e (quick_mult_e x x) (neg_e (point (of_bits binary64 0x3fe2_0000_0000_0000)))

unfoldable pub paired10_e :
    (t : List DoubleDouble) {x x2 x4 x8 : DoubleDouble} → EstP x → EstP x2 → EstP x4 → EstP x8 → EstP (paired10 t x x2 x4 x8)
unfolding paired10 mul_add_e const_e
paired10_e t z z2 z4 z8 =
    let p0 = mul_add_e z (coef t 1) (coef t 0) in
    let p1 = mul_add_e z (coef t 3) (coef t 2) in
    let p2 = mul_add_e z (coef t 5) (coef t 4) in
    let p3 = mul_add_e z (coef t 7) (coef t 6) in
    let p4 = mul_add_e z (coef t 9) (coef t 8) in
    let q0 = mul_add_e z2 p1 p0 in
    let q1 = mul_add_e z2 p3 p2 in
    let r0 = mul_add_e z4 q1 q0 in
    mul_add_e z8 p4 r0

unfoldable pub slow_e : {x : DoubleDouble} → EstP x → EstP (inverf0p06_to0p75 x)
unfolding inverf0p06_to0p75 centred_e quick_mult_e div_e paired10_e p0p06_to0p75 q0p06_to0p75 from_bit_pair
slow_e x =
    let z = centred_e x in
    let z2 = quick_mult_e z z in
    let z4 = quick_mult_e z2 z2 in
    let z8 = quick_mult_e z4 z4 in
    quick_mult_e (div_e (paired10_e p0p06_to0p75 z z2 z4 z8) (paired10_e q0p06_to0p75 z z2 z4 z8)) x

unfoldable pub polyeval5_e : {x : Float} → Est x → (a0 a1 a2 a3 a4 : Float) → Est (f_polyeval5 x a0 a1 a2 a3 a4)
unfolding f_polyeval5 fmla_e point
polyeval5_e x a0 a1 a2 a3 a4 =
    fmla_e x (fmla_e x (fmla_e x (fmla_e x (point a4) (point a3)) (point a2)) (point a1)) (point a0)

unfoldable pub horner10_e : (t : List DoubleDouble) {x : DoubleDouble} → EstP x → EstP (horner10 t x)
unfolding horner10 polyeval5_e mul_f64_add_e mul_add_e const_e
horner10_e t z =
    let p = polyeval5_e z.hi (at t 5).hi (at t 6).hi (at t 7).hi (at t 8).hi (at t 9).hi in
    let n4 = mul_f64_add_e z p (coef t 4) in
    let n3 = mul_add_e z n4 (coef t 3) in
    let n2 = mul_add_e z n3 (coef t 2) in
    let n1 = mul_add_e z n2 (coef t 1) in
    mul_add_e z n1 (coef t 0)

unfoldable pub quick_e : {x : DoubleDouble} → EstP x → EstP (quick_rational x)
unfolding quick_rational centred_e quick_mult_e div_e horner10_e p0p06_to0p75 q0p06_to0p75 from_bit_pair
quick_e x = let z = centred_e x in quick_mult_e (div_e (horner10_e p0p06_to0p75 z) (horner10_e q0p06_to0p75 z)) x
