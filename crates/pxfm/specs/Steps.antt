-- Every function of the port by its number, over bit patterns: what the comparison with the Rust calls (document 01, Reference:
-- "a test program runs both over every branch and its edges and compares all bits").
use Rattle.std.specs.Prelude.{ℕ, List, [], ◌∷◌, from_bits, slice_index, slice_index_or, to_bits, Float}
use Rattle.std.specs.Float.{binary64}
use Rattle.pxfm.specs.declared.double_double.DoubleDouble.{DoubleDouble}
use Rattle.pxfm.specs.declared.double_double.BitPair.{BitPair}
use Rattle.pxfm.specs.DoubleDouble.{new_of, bit_pair, split_of, from_exact_mult, from_exact_add, from_full_exact_add, from_full_exact_sub}
use Rattle.pxfm.specs.DoubleDouble.{fast_sqrt, mul_add_f64, recip_of, div_of, mul_f64_add, mul_add, quick_mult, quick_mult_f64}
use Rattle.pxfm.specs.DoubleDouble.{full_add_f64, f64_add, neg_of, to_f64, nan_pair}
use Rattle.pxfm.specs.Common.{f_fmla, dd_fmla}
use Rattle.pxfm.specs.Polyeval.{f_polyeval4, f_polyeval5}
use Rattle.pxfm.specs.PowExec.{log_poly1}
use Rattle.pxfm.specs.Rationals.{inverf0p06_to0p75, inverf_asympt_small, inverf_asympt_long}
use Rattle.pxfm.specs.Argument.{zero}
use Rattle.pxfm.specs.Checked.{checked_log_dd, checked_log_dTo_dd, checked_erf_core}

-- A result that is a double, as the high part beside a zero.
abbrev pub single_of : Float → DoubleDouble
single_of x = new_of zero x

-- Every function's result at six doubles, in the order of the functions' numbers. A function takes its arguments from the front,
-- a pair as its low part and then its high part.
unfoldable pub results : Float → Float → Float → Float → Float → Float → List DoubleDouble
results x0 x1 x2 x3 x4 x5 =
    let a = new_of x0 x1 in
    let b = new_of x2 x3 in
    split_of x0 ∷
    from_exact_mult x0 x1 ∷
    from_exact_add x0 x1 ∷
    from_full_exact_add x0 x1 ∷
    from_full_exact_sub x0 x1 ∷
    fast_sqrt a ∷
    mul_add_f64 a b x4 ∷
    recip_of a ∷
    div_of a b ∷
    mul_f64_add a x2 (new_of x3 x4) ∷
    mul_add a b (new_of x4 x5) ∷
    quick_mult a b ∷
    quick_mult_f64 a x2 ∷
    full_add_f64 a x2 ∷
    f64_add x0 (new_of x1 x2) ∷
    neg_of a ∷
    single_of (to_f64 a) ∷
    single_of (f_fmla x0 x1 x2) ∷
    single_of (dd_fmla x0 x1 x2) ∷
    log_poly1 x0 ∷
    single_of (f_polyeval4 x0 x1 x2 x3 x4) ∷
    single_of (f_polyeval5 x0 x1 x2 x3 x4 x5) ∷
    checked_log_dd a ∷
    checked_log_dTo_dd x0 ∷
    inverf0p06_to0p75 a ∷
    inverf_asympt_small a b ∷
    inverf_asympt_long a b ∷
    checked_erf_core a ∷
    []

-- The bit patterns of a pair. `to_bits` gives 7ff8000000000000 for a NaN.
abbrev pub patterns_of : DoubleDouble → BitPair
patterns_of r = bit_pair (to_bits binary64 r.lo) (to_bits binary64 r.hi)

-- The patterns of the result of the function with a number; of a pair of NaN where no function has it.
unfoldable pub result_of : ℕ → Float → Float → Float → Float → Float → Float → BitPair
result_of which x0 x1 x2 x3 x4 x5 = patterns_of (slice_index_or (results x0 x1 x2 x3 x4 x5) which nan_pair)

-- The double whose pattern stands at a place.
abbrev pub double_at : List ℕ → ℕ → Float
double_at inp i = from_bits binary64 (slice_index inp i)

-- The same at the doubles with six patterns.
unfoldable pub step_of : ℕ → List ℕ → BitPair
step_of which inp =
    result_of which (double_at inp 0) (double_at inp 1) (double_at inp 2) (double_at inp 3) (double_at inp 4) (double_at inp 5)
