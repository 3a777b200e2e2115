-- The quantile's sides, each written out by itself from document 01's paragraph on src/err/inverfc.rs: below 0.1, from 0.1 up to 1, and above 1.
-- The pieces between the cuts are the port's. Definitions only.
use Rattle.std.specs.Prelude.{cond, Float}
use Rattle.std.specs.Float.{binary64}
use Rattle.std.specs.Float.Ieee.{of_bits, neg, mul, lt, le}
use Rattle.pxfm.specs.DoubleDouble.{one, two, new_of, neg_of, from_full_exact_sub, full_add_f64, to_f64}
use Rattle.pxfm.specs.FastLogDd.{fast_log_dTo_dd, fast_log_dd}
use Rattle.pxfm.specs.Rationals.{inverf0p06_to0p75}
use Rattle.pxfm.specs.Argument.{zero, three_quarters, complement}
use Rattle.pxfm.specs.Inverfc.{taylor4_of, taylor7_of, quick_rational, rounds_alike, asymptotic}

-- the cuts below 0.75, and those of the shorter rational: 0.9999 on 1 - x, and 0.0001 on x
abbrev pub four_terms : Float
four_terms = of_bits binary64 0x3f83_74bc_6a7e_f9db

abbrev pub seven_terms : Float
seven_terms = of_bits binary64 0x3fae_b851_eb85_1eb8

abbrev pub near_one : Float
near_one = of_bits binary64 0x3fef_ff2e_48e8_a71e

abbrev pub near_zero : Float
near_zero = of_bits binary64 0x3f1a_36e2_eb1c_432d

-- below 0.1: the logarithm of x itself, with its own cut
unfoldable pub small_side : Float → Float
small_side x = to_f64 (asymptotic (fast_log_dTo_dd x) (le near_zero x))

-- from 0.1 up to 1: 1 - x, cut on its high part, with the rounding test up to 0.75
unfoldable pub lower_side : Float → Float
lower_side x =
    let d = complement (new_of zero x) in
    to_f64
    (cond (le d.hi four_terms) (taylor4_of d)
    (cond (le d.hi seven_terms) (taylor7_of d)
    (cond (le d.hi three_quarters) (let k = quick_rational d in cond (rounds_alike k) k (inverf0p06_to0p75 d))
    (asymptotic (fast_log_dd (full_add_f64 (neg_of d) one)) (lt d.hi near_one)))))

-- above 1: 1 - (2 - x), cut likewise; the answer is multiplied by -1 last
unfoldable pub upper_side : Float → Float
upper_side x =
    let u = complement (from_full_exact_sub two x) in
    mul binary64
    (to_f64
    (cond (le u.hi four_terms) (taylor4_of u)
    (cond (le u.hi seven_terms) (taylor7_of u)
    (cond (le u.hi three_quarters) (let k = quick_rational u in cond (rounds_alike k) k (inverf0p06_to0p75 u))
    (asymptotic (fast_log_dd (full_add_f64 (neg_of u) one)) (lt u.hi near_one))))))
    (neg one)
