-- A computed case of each statement of this crate. The bits are worked out by tools/recompute.
use mathlib.Core.Path.{◌≡◌, refl}
use mathlib.Core.List.{List, [], ◌∷◌}
use Prim.Native.Nat.{ℕ}
use lib.Count.{count_leading_zeros}
use lib.Ieee.{Float, binary64, of_bits, to_bits, of_int, is_nan, eq, lt, le, add, sub, mul, div, neg, round}
use Rattle.sqrt.specs.Sqrt.{isqrt, round_root, round_sqrt, sqrt_in}
use Rattle.pxfm.specs.DoubleDouble.{from_bit_pair, neg_of, split_of, from_exact_mult, from_exact_add, from_full_exact_add, from_full_exact_sub, full_add_f64, f64_add}
use Rattle.pxfm.specs.DoubleDouble.{quick_mult, quick_mult_f64, mul_add, mul_add_f64, mul_f64_add, div_of, recip_of, fast_sqrt, to_f64, dd_f64_mul_add, log2_dd}
use Rattle.pxfm.specs.Common.{f_fmla}
use Rattle.pxfm.specs.Polyeval.{f_polyeval4, f_polyeval5}
use Rattle.log_tables.specs.PowTables.{pow_inverse}
use Rattle.log_tables.specs.LogTable.{fast_log_dd_inv_lo, fast_log_dd_inv_hi}
use Rattle.pxfm.specs.PowExec.{p1, log_poly1}
use Rattle.pxfm.specs.FastLogDd.{scaled_of, index_of, factor_of, carry_of, reduced_of, exponent_of, parts_of, fast_log_dTo_dd, log_lo, fast_log_dd}
use Rattle.pxfm.specs.Rationals.{paired11, paired14, p_asympt_small, q_asympt_small, p_asympt_long, q_asympt_long, inverf_asympt_small, inverf_asympt_long}
use Rattle.pxfm.specs.Rationals.{centred_of, p0p06_to0p75, q0p06_to0p75}
use Rattle.pxfm.specs.Argument.{mirrored_of, complement, core_argument}
use Rattle.pxfm.specs.Inverfc.{taylor, taylor4_of, horner10, quick_rational, rounds_alike, middle_of, zeta_sqrt, asymptotic, tail_of, erf_core}
use Rattle.pxfm.specs.Inverfc.{inverfc_extra_small, sign_of, central_of, f_erfcinv, f_erfcinv_bits}
use Rattle.pxfm.specs.Inverf.{with_sign, f_erfinv}
use Rattle.limit.specs.Times.{sum_of, squares_of}
use Rattle.limit.specs.Formula.{plain_form, sample_form, mean_of, spread_by, divisor_of, spread_of, quantile_of, limit_from, formula_of}
use Rattle.band.specs.Band.{inverse_of, ends_from, ends_of}
use Rattle.law_order.specs.Order.{mean_at, limit_at, low_at, high_at}

abbrev HasBits : Float → ℕ → Type 0
HasBits x b = to_bits binary64 x ≡ b

-- 1, 2 and 4 ticks, whose mean is 7 / 3; and 90, 100 and 110
abbrev few : List ℕ
few = 1 ∷ 2 ∷ 4 ∷ []

abbrev near : List ℕ
near = 90 ∷ 100 ∷ 110 ∷ []

-- `EvenLimit`, and `LimitSide` next to it: at even chances the mean's bits, one in a million before it more, one after it less
pub record EvenCases : Type 0 where
  pub mean : HasBits (mean_at few) 0x4002_aaaa_aaaa_aaab
  pub plain : HasBits (limit_at plain_form few 500_000) 0x4002_aaaa_aaaa_aaab
  pub sample : HasBits (limit_at sample_form few 500_000) 0x4002_aaaa_aaaa_aaab
  pub before : HasBits (limit_at sample_form few 499_999) 0x4002_aaac_ac93_f8ed
  pub after : HasBits (limit_at sample_form few 500_001) 0x4002_aaa8_a8c1_5c68

-- `LimitOrder` and `ProfileOrder`: a limit at 1, at 10 and at 1,000 in a million
pub record OrderCases : Type 0 where
  pub one : HasBits (limit_at sample_form near 1) 0x4062_7118_84f6_01d8
  pub ten : HasBits (limit_at sample_form near 10) 0x4061_d4c3_da95_2334
  pub thousand : HasBits (limit_at sample_form near 1_000) 0x4060_5cdf_d49d_0ab2

-- `QuantileSign`: at the smallest double, next to 1 on both sides, and at the last double before 2
pub record SignCases : Type 0 where
  pub first : f_erfcinv_bits 1 ≡ 0x403b_369a_6510_4092
  pub before_one : f_erfcinv_bits 0x3fef_ffff_ffff_ffff ≡ 0x3c9c_5bf8_91b4_ef6b
  pub after_one : f_erfcinv_bits 0x3ff0_0000_0000_0001 ≡ 0xbcac_5bf8_91b4_ef6b
  pub last : f_erfcinv_bits 0x3fff_ffff_ffff_ffff ≡ 0xc017_3856_d153_f081

-- `QuantileEverywhere`: -0, 2, the double above it, the first one below zero, 1, both infinities and a NaN with another pattern than ours
pub record EdgeCases : Type 0 where
  pub minus_zero_lem : f_erfcinv_bits 0x8000_0000_0000_0000 ≡ 0x7ff0_0000_0000_0000
  pub two : f_erfcinv_bits 0x4000_0000_0000_0000 ≡ 0xfff0_0000_0000_0000
  pub above_two : f_erfcinv_bits 0x4000_0000_0000_0001 ≡ 0x7ff8_0000_0000_0000
  pub below_zero : f_erfcinv_bits 0x8000_0000_0000_0001 ≡ 0x7ff8_0000_0000_0000
  pub one : f_erfcinv_bits 0x3ff0_0000_0000_0000 ≡ 0
  pub infinity : f_erfcinv_bits 0x7ff0_0000_0000_0000 ≡ 0x7ff8_0000_0000_0000
  pub minus_infinity : f_erfcinv_bits 0xfff0_0000_0000_0000 ≡ 0x7ff8_0000_0000_0000
  pub none : f_erfcinv_bits 0xfff0_0000_0000_0001 ≡ 0x7ff8_0000_0000_0000

-- `MeanInside` and `BandOrder`: about a mean of 100, the band of half the links, and that of all but one in a million
pub record BandCases : Type 0 where
  pub low_half : HasBits (low_at near 500_000) 0x4057_5053_996d_8d32
  pub high_half : HasBits (high_at near 500_000) 0x405a_afac_6692_72ce
  pub low_most : HasBits (low_at near 999_999) 0x4049_8ab3_e77f_37c4
  pub high_most : HasBits (high_at near 999_999) 0x4062_9d53_0620_320f

pub computed : EvenCases × OrderCases × SignCases × EdgeCases × BandCases
unfolding count_leading_zeros of_bits to_bits of_int is_nan eq lt le add sub mul div neg round isqrt round_root round_sqrt sqrt_in
    from_bit_pair neg_of split_of from_exact_mult from_exact_add from_full_exact_add from_full_exact_sub full_add_f64 f64_add quick_mult
    quick_mult_f64 mul_add mul_add_f64 mul_f64_add div_of recip_of fast_sqrt to_f64 dd_f64_mul_add log2_dd f_fmla f_polyeval4 f_polyeval5
    pow_inverse p1 log_poly1 fast_log_dd_inv_lo fast_log_dd_inv_hi scaled_of index_of factor_of carry_of reduced_of exponent_of parts_of fast_log_dTo_dd log_lo fast_log_dd
    paired11 paired14 p_asympt_small q_asympt_small p_asympt_long q_asympt_long inverf_asympt_small inverf_asympt_long centred_of p0p06_to0p75 q0p06_to0p75
    mirrored_of complement core_argument taylor taylor4_of horner10 quick_rational rounds_alike middle_of zeta_sqrt asymptotic tail_of erf_core
    inverfc_extra_small sign_of central_of f_erfcinv with_sign f_erfinv sum_of squares_of mean_of spread_by divisor_of spread_of quantile_of limit_from formula_of
    inverse_of ends_from ends_of
computed = (
  record { mean = refl; plain = refl; sample = refl; before = refl; after = refl },
  record { one = refl; ten = refl; thousand = refl },
  record { first = refl; before_one = refl; after_one = refl; last = refl },
  record {
    minus_zero_lem = refl;
    two = refl;
    above_two = refl;
    below_zero = refl;
    one = refl;
    infinity = refl;
    minus_infinity = refl;
    none = refl;
  },
  record { low_half = refl; high_half = refl; low_most = refl; high_most = refl },
)
