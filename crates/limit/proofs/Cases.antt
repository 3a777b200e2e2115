-- The thirteen cases that document 01 marks with a star (Numbers to try), proved together by computing the definitions:
-- six of the quantile, three of the root, two of the index and two of the limit, of form 1; and four cases of the two forms. Assumes nothing.
use mathlib.Core.Path.{◌≡◌, refl}
use mathlib.Core.List.{[], ◌∷◌}
use Prim.Native.Nat.{ℕ}
use lib.Count.{count_leading_zeros}
use lib.Ieee.{binary64, of_bits, to_bits, of_int, is_nan, eq, lt, le, add, sub, mul, div, neg, round}
use Rattle.sqrt.specs.Sqrt.{isqrt, round_root, round_sqrt, sqrt_in, sqrt_of}
use Rattle.pxfm.specs.DoubleDouble.{from_bit_pair, neg_of, split_of, from_exact_mult, from_exact_add, from_full_exact_add, full_add_f64, f64_add, quick_mult}
use Rattle.pxfm.specs.DoubleDouble.{quick_mult_f64, mul_add, mul_f64_add, div_of, recip_of, fast_sqrt, to_f64, dd_f64_mul_add, log2_dd}
use Rattle.log_tables.specs.PowTables.{pow_inverse}
use Rattle.pxfm.specs.PowExec.{p1, log_poly1}
use Rattle.log_tables.specs.LogTable.{fast_log_dd_inv_lo, fast_log_dd_inv_hi}
use Rattle.pxfm.specs.FastLogDd.{scaled_of, index_of, factor_of, carry_of, reduced_of, exponent_of, parts_of, fast_log_dTo_dd}
use Rattle.pxfm.specs.Rationals.{paired14, p_asympt_long, q_asympt_long, inverf_asympt_long}
use Rattle.pxfm.specs.Inverfc.{zeta_sqrt, asymptotic, inverfc_extra_small, f_erfcinv, f_erfcinv_bits}
use Rattle.limit.specs.Times.{in_range, time_in_range, all_in_range, times_in_range, sum_of, squares_of}
use Rattle.limit.specs.Formula.{plain_form, sample_form, mean_of, spread_by, divisor_of, spread_of, quantile_of, limit_from, formula_of, figures_of}
use Rattle.limit.specs.Answer.{LimitResult, limited}
use Rattle.limit.specs.Limit.{form_known, chance_in_range, judge, limit_of}

-- The root over bit patterns.
abbrev sqrt_bits : ℕ → ℕ
sqrt_bits b = to_bits binary64 (sqrt_of (of_bits binary64 b))

-- Mean, spread, quantile and limit with these bits.
abbrev answered : ℕ → ℕ → ℕ → ℕ → LimitResult
answered mean spread quantile limit =
    limited (record {
      mean = of_bits binary64 mean;
      spread = of_bits binary64 spread;
      quantile = of_bits binary64 quantile;
      limit = of_bits binary64 limit;
    })

-- 100, 10 and the quantile of one chance in a million, the Rust's (tools/leaf-quantiles).
abbrev hundred : ℕ
hundred = 0x4059_0000_0000_0000

abbrev ten : ℕ
ten = 0x4024_0000_0000_0000

abbrev at_one : ℕ
at_one = 0x400a_e3b1_9613_f297

pub record Cases : Type 0 where
  pub quantile_at_zero : f_erfcinv_bits 0 ≡ 0x7ff0_0000_0000_0000
  pub quantile_at_minus_zero : f_erfcinv_bits 0x8000_0000_0000_0000 ≡ 0x7ff0_0000_0000_0000
  pub quantile_at_two : f_erfcinv_bits 0x4000_0000_0000_0000 ≡ 0xfff0_0000_0000_0000
  pub quantile_at_one : f_erfcinv_bits 0x3ff0_0000_0000_0000 ≡ 0
  pub quantile_at_minus_one : f_erfcinv_bits 0xbff0_0000_0000_0000 ≡ 0x7ff8_0000_0000_0000
  pub quantile_above_two : f_erfcinv_bits 0x4000_0000_0000_0001 ≡ 0x7ff8_0000_0000_0000
  pub root_of_four : sqrt_bits 0x4010_0000_0000_0000 ≡ 0x4000_0000_0000_0000
  pub root_of_least : sqrt_bits 1 ≡ 0x1e60_0000_0000_0000
  pub root_of_minus_zero : sqrt_bits 0x8000_0000_0000_0000 ≡ 0x8000_0000_0000_0000
  pub index_last : index_of 0x16a0_9e66_7f3b_cc ≡ 181
  pub index_first : index_of 0x16a0_9e66_7f3b_cd ≡ 0
  pub limit_of_equal_times : limit_of plain_form (100 ∷ 100 ∷ []) 1 ≡ answered hundred 0 at_one hundred
  pub limit_at_even_chance : limit_of plain_form (90 ∷ 110 ∷ []) 500_000 ≡ answered hundred ten 0 hundred

-- The divisor by the form (document 02, 2026-04), at one chance in a million: 90 and 110 have D = 400, over 4 or over 2, and 90, 100 and 110
-- have D = 600, over 6, which is the spread of 90 and 110 under form 1. The bits are worked out by tools/recompute's quantile and the processor.
pub record FormCases : Type 0 where
  pub plain_two : limit_of plain_form (90 ∷ 110 ∷ []) 1 ≡ answered hundred ten at_one 0x4062_7118_84f6_01d8
  pub sample_two : limit_of sample_form (90 ∷ 110 ∷ []) 1 ≡ answered hundred 0x402c_48c6_001f_0ac0 at_one 0x4064_e727_7ee6_3bd0
  pub sample_three : limit_of sample_form (90 ∷ 100 ∷ 110 ∷ []) 1 ≡ answered hundred ten at_one 0x4062_7118_84f6_01d8
  pub sample_equal : limit_of sample_form (100 ∷ 100 ∷ []) 1 ≡ answered hundred 0 at_one hundred

computed : Cases × FormCases
unfolding count_leading_zeros of_bits to_bits of_int is_nan eq lt le add sub mul div neg round isqrt round_root round_sqrt sqrt_in
    from_bit_pair neg_of split_of from_exact_mult from_exact_add from_full_exact_add full_add_f64 f64_add quick_mult
    quick_mult_f64 mul_add mul_f64_add div_of recip_of fast_sqrt to_f64 dd_f64_mul_add log2_dd
    pow_inverse p1 log_poly1 fast_log_dd_inv_lo fast_log_dd_inv_hi scaled_of index_of factor_of carry_of reduced_of exponent_of parts_of fast_log_dTo_dd
    paired14 p_asympt_long q_asympt_long inverf_asympt_long zeta_sqrt asymptotic inverfc_extra_small f_erfcinv
    in_range time_in_range all_in_range times_in_range sum_of squares_of mean_of spread_by divisor_of spread_of quantile_of limit_from formula_of figures_of
    form_known chance_in_range judge limit_of
computed = (
  record {
    quantile_at_zero = refl;
    quantile_at_minus_zero = refl;
    quantile_at_two = refl;
    quantile_at_one = refl;
    quantile_at_minus_one = refl;
    quantile_above_two = refl;
    root_of_four = refl;
    root_of_least = refl;
    root_of_minus_zero = refl;
    index_last = refl;
    index_first = refl;
    limit_of_equal_times = refl;
    limit_at_even_chance = refl;
  },
  record { plain_two = refl; sample_two = refl; sample_three = refl; sample_equal = refl },
)

pub starred_cases : Cases
starred_cases = computed.0

pub form_cases : FormCases
form_cases = computed.1
