-- The ends of the ranges, the order of the refusals, and three bands. Equal times have no spread, so both ends are their time. Of unequal times every
-- step counts: form 2's divisor, the root, the share's scale, the inverse error function, and of the widest times the order of the products too.
-- Their bits are those that docs/DEFINITION.md, section 8.1, gives in exact fractions, each operation rounded once. Computed.
use mathlib.Core.Path.{◌≡◌, refl}
use mathlib.Core.List.{[], ◌∷◌}
use lib.Ieee.{binary64, of_bits, to_bits, of_int, is_nan, eq, lt, le, neg, add, sub, mul, div, round}
use Rattle.sqrt.specs.Sqrt.{isqrt, round_root, round_sqrt, sqrt_in}
use Rattle.pxfm.specs.DoubleDouble.{from_bit_pair, split_of, from_exact_mult, from_full_exact_add, full_add_f64, quick_mult, quick_mult_f64}
use Rattle.pxfm.specs.DoubleDouble.{mul_add, mul_f64_add, div_of, to_f64}
use Rattle.pxfm.specs.Common.{f_fmla}
use Rattle.pxfm.specs.Polyeval.{f_polyeval5}
use Rattle.pxfm.specs.Rationals.{paired10, p0p06_to0p75, q0p06_to0p75, centred_of, inverf0p06_to0p75}
use Rattle.pxfm.specs.Inverfc.{taylor, taylor4_of, horner10, quick_rational, rounds_alike, middle_of, erf_core}
use Rattle.pxfm.specs.Inverf.{with_sign, f_erfinv}
use Rattle.limit.specs.Times.{in_range, time_in_range, all_in_range, times_in_range, sum_of, squares_of}
use Rattle.limit.specs.Formula.{mean_of, spread_by, divisor_of, spread_of}
use Rattle.band.specs.Answer.{banded, refused}
use Rattle.band.specs.Band.{share_in_range, inverse_of, ends_from, ends_of, judge, band_of}

pub record BandCases : Type 0 where
  pub share_zero : band_of (100 ∷ 100 ∷ []) 0 ≡ refused 18
  pub share_million : band_of (100 ∷ 100 ∷ []) 1_000_000 ≡ refused 18
  pub no_times_lem : band_of [] 1 ≡ refused 6
  pub one_time : band_of (100 ∷ []) 999_999 ≡ refused 6
  pub time_beyond_lem : band_of (1_048_576 ∷ 100 ∷ []) 1 ≡ refused 6
  pub share_first : band_of [] 0 ≡ refused 18
  pub equal_times : band_of (100 ∷ 100 ∷ []) 1
      ≡ banded (record { low = of_bits binary64 0x4059_0000_0000_0000; high = of_bits binary64 0x4059_0000_0000_0000 })

pub band_cases : BandCases
unfolding of_bits to_bits of_int is_nan eq lt le neg add sub mul div round isqrt round_root round_sqrt sqrt_in
    from_bit_pair split_of from_exact_mult from_full_exact_add full_add_f64 quick_mult quick_mult_f64 mul_add mul_f64_add to_f64 f_fmla
    taylor taylor4_of erf_core with_sign f_erfinv
    in_range time_in_range all_in_range times_in_range sum_of squares_of mean_of spread_by divisor_of spread_of
    share_in_range inverse_of ends_from ends_of judge band_of
band_cases =
    record {
      share_zero = refl;
      share_million = refl;
      no_times_lem = refl;
      one_time = refl;
      time_beyond_lem = refl;
      share_first = refl;
      equal_times = refl;
    }

-- one thing wrong at a time: its number
pub record RefusalNumbers : Type 0 where
  pub share : band_of (100 ∷ 100 ∷ []) 0 ≡ refused 18
  pub times : band_of (100 ∷ []) 1 ≡ refused 6

pub refusal_numbers : RefusalNumbers
unfolding in_range time_in_range all_in_range times_in_range share_in_range judge band_of
refusal_numbers = record { share = refl; times = refl }

-- about 68 % of the links
pub record UnequalTimes : Type 0 where
  pub close : band_of (90 ∷ 110 ∷ []) 682_689
      ≡ banded (record { low = of_bits binary64 0x4055_76e7_7c4e_4673; high = of_bits binary64 0x405c_8918_83b1_b98d })
  pub widest : band_of (1 ∷ 1_048_575 ∷ []) 682_689
      ≡ banded (record { low = of_bits binary64 0xc10a_8268_4177_4f18; high = of_bits binary64 0x4133_504d_082e_e9e3 })

pub unequal_times : UnequalTimes
unfolding of_bits to_bits of_int is_nan eq lt le neg add sub mul div round isqrt round_root round_sqrt sqrt_in
    from_bit_pair split_of from_exact_mult from_full_exact_add full_add_f64 quick_mult quick_mult_f64 mul_add mul_f64_add div_of to_f64 f_fmla f_polyeval5
    paired10 p0p06_to0p75 q0p06_to0p75 centred_of inverf0p06_to0p75 horner10 quick_rational rounds_alike middle_of erf_core with_sign f_erfinv
    in_range time_in_range all_in_range times_in_range sum_of squares_of mean_of spread_by divisor_of spread_of
    share_in_range inverse_of ends_from ends_of judge band_of
unequal_times = record { close = refl; widest = refl }
