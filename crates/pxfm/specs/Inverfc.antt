-- The quantile (document 01, src/err/inverfc.rs): `f_erfcinv` of every double, the cuts of `erf_core` on the high part,
-- and the pieces between them. Each line is one rounded operation, one pair operation or one test.
use Rattle.std.specs.Prelude.{ℕ, Bool, true, false, cond, ◌||◌, List, [], ◌∷◌, from_bits, is_nan, to_bits, Float}
use Rattle.std.specs.Float.{nan, inf, binary64}
use Rattle.std.specs.Float.Ieee.{eq, lt, le, neg, add, sub, mul}
use Rattle.pxfm.specs.declared.double_double.DoubleDouble.{DoubleDouble}
use Rattle.pxfm.specs.DoubleDouble.{one, two, neg_of, from_exact_add, quick_mult, full_add_f64, mul_f64_add, mul_add, div_of, recip_of, fast_sqrt, to_f64}
use Rattle.pxfm.specs.Common.{f_fmla}
use Rattle.pxfm.specs.Polyeval.{f_polyeval4, f_polyeval5}
use Rattle.pxfm.specs.FastLogDd.{fast_log_dTo_dd, fast_log_dd}
use Rattle.pxfm.specs.Rationals.{bits, at, centred_of, p0p06_to0p75, q0p06_to0p75}
use Rattle.pxfm.specs.Rationals.{inverf0p06_to0p75, inverf_asympt_small, inverf_asympt_long}
use Rattle.pxfm.specs.Argument.{zero, tenth, three_quarters, core_argument}

-- The first three coefficients of the Taylor series of the inverse error function, as pairs: √π / 2, and those that follow it.
unfoldable pub taylor : List DoubleDouble
taylor =
    bits 0xbc8618f13eb7ca89 0x3fec5bf891b4ef6b ∷
    bits 0xbc33ea2ef8dde075 0x3fcdb29fb2fee5e4 ∷
    bits 0x3c2cec68daff0d80 0x3fc053c2c0ab91c5 ∷
    []

-- Up to 0.0095: four terms, two of them in doubles.
unfoldable pub taylor4_of : DoubleDouble → DoubleDouble
taylor4_of x =
    let z2 = quick_mult x x in
    let p = f_fmla z2.hi (from_bits binary64 0x3fb62847c47dda48) (from_bits binary64 0x3fc053c2c0ab91c5) in
    let r1 = mul_f64_add z2 p (at taylor 1) in
    let r0 = mul_add z2 r1 (at taylor 0) in
    quick_mult r0 x

-- Up to 0.06: seven terms, four of them in doubles.
unfoldable pub taylor7_of : DoubleDouble → DoubleDouble
taylor7_of x =
    let z2 = quick_mult x x in
    let p =
    f_polyeval4 z2.hi
    (from_bits binary64 0x3fb62847c47dda48)
    (from_bits binary64 0x3fb0a13189c6ef7a)
    (from_bits binary64 0x3faa7c85c89bb08b)
    (from_bits binary64 0x3fa5eeb1d488e312) in
    let r2 = mul_f64_add z2 p (at taylor 2) in
    let r1 = mul_add z2 r2 (at taylor 1) in
    let r0 = mul_add z2 r1 (at taylor 0) in
    quick_mult r0 x

-- Ten coefficients at vz by Horner's rule, the upper five by their high parts alone.
unfoldable pub horner10 : List DoubleDouble → DoubleDouble → DoubleDouble
horner10 t vz =
    let ps = f_polyeval5 vz.hi (at t 5).hi (at t 6).hi (at t 7).hi (at t 8).hi (at t 9).hi in
    let n4 = mul_f64_add vz ps (at t 4) in
    let n3 = mul_add vz n4 (at t 3) in
    let n2 = mul_add vz n3 (at t 2) in
    let n1 = mul_add vz n2 (at t 1) in
    mul_add vz n1 (at t 0)

-- The quicker rational from 0.06 to 0.75.
unfoldable pub quick_rational : DoubleDouble → DoubleDouble
quick_rational x =
    let vz = centred_of x in
    quick_mult (div_of (horner10 p0p06_to0p75 vz) (horner10 q0p06_to0p75 vz)) x

-- Ziv's rounding test: k rounds to one double with any error up to 2 ^ -56 × its high part + 2 ^ -59.
unfoldable pub rounds_alike : DoubleDouble → Bool
rounds_alike k =
    let err = f_fmla k.hi (from_bits binary64 0x3c70000000000000) (from_bits binary64 0x3c40000000000000) in
    let ub = add binary64 k.hi (add binary64 k.lo err) in
    let lb = add binary64 k.hi (sub binary64 k.lo err) in
    eq ub lb

-- From 0.06 to 0.75.
unfoldable pub middle_of : DoubleDouble → DoubleDouble
middle_of x = let k = quick_rational x in cond (rounds_alike k) k (inverf0p06_to0p75 x)

-- The root of zeta, which is a logarithm with the other sign.
unfoldable pub zeta_sqrt : DoubleDouble → DoubleDouble
zeta_sqrt log = fast_sqrt (neg_of (from_exact_add log.hi log.lo))

-- By the shorter or the longer asymptotic rational, from the logarithm of x itself (below 0.1) or of 1 - x (above 0.75).
-- In the code both branches hold these steps, as in the Rust.
unfoldable pub asymptotic : DoubleDouble → Bool → DoubleDouble
asymptotic log short =
    let root = zeta_sqrt log in
    let rz = recip_of root in
    cond short (inverf_asympt_small rz root) (inverf_asympt_long rz root)

-- Above 0.75; the shorter rational below 0.9999.
unfoldable pub tail_of : DoubleDouble → DoubleDouble
tail_of x = asymptotic (fast_log_dd (full_add_f64 (neg_of x) one)) (lt x.hi (from_bits binary64 0x3fef_ff2e_48e8_a71e))

-- The inverse error function of a pair with a high part below 1, by the cuts 0.0095, 0.06 and 0.75.
unfoldable pub erf_core : DoubleDouble → DoubleDouble
erf_core x =
    cond (le x.hi (from_bits binary64 0x3f83_74bc_6a7e_f9db)) (taylor4_of x)
    (cond (le x.hi (from_bits binary64 0x3fae_b851_eb85_1eb8)) (taylor7_of x)
    (cond (le x.hi three_quarters) (middle_of x)
    (tail_of x)))

-- Below 0.1: from the logarithm of x itself; the shorter rational from 0.0001 on.
unfoldable pub inverfc_extra_small : Float → DoubleDouble
inverfc_extra_small x = asymptotic (fast_log_dTo_dd x) (le (from_bits binary64 0x3f1a_36e2_eb1c_432d) x)

-- -1 above 1, and 1 up to it.
unfoldable pub sign_of : Float → Float
sign_of x = cond (lt one x) (neg one) one

-- From 0.1 up to 2, but for 1.
unfoldable pub central_of : Float → Float
central_of x = mul binary64 (to_f64 (erf_core (core_argument x))) (sign_of x)

-- Below 0, above 2 or a NaN.
abbrev pub outside : Float → Bool
outside x = lt x zero || (lt two x || is_nan x)

-- The quantile (`f_erfcinv`) of every double, by document 01's order.
unfoldable pub f_erfcinv : Float → Float
f_erfcinv x =
    cond (eq x zero) (inf false)
    (cond (eq x two) (inf true)
    (cond (outside x) nan
    (cond (eq x one) zero
    (cond (lt x tenth) (to_f64 (inverfc_extra_small x))
    (central_of x)))))

-- The same over bit patterns. `to_bits` gives 7ff8000000000000 for a NaN.
abbrev pub f_erfcinv_bits : ℕ → ℕ
f_erfcinv_bits b = to_bits binary64 (f_erfcinv (from_bits binary64 b))
