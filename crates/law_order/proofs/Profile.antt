-- The quantiles at the chances of the profile, computed, and that the limits fall with them, for every allowed set of times. Assumes nothing.
use mathlib.Core.Path.{◌≡◌, refl}
use mathlib.Core.Bool.{true}
use mathlib.Core.List.{List}
use Prim.Native.Nat.{ℕ}
use lib.Count.{count_leading_zeros}
use lib.Dec.{lit≤}
use lib.Ieee.{binary64, of_bits, to_bits, of_int, is_nan, eq, lt, le, add, sub, mul, div, neg, round}
use Rattle.sqrt.specs.Sqrt.{isqrt, round_root, round_sqrt, sqrt_in}
use Rattle.pxfm.specs.DoubleDouble.{from_bit_pair, neg_of, split_of, from_exact_mult, from_exact_add, from_full_exact_add, full_add_f64, f64_add, quick_mult}
use Rattle.pxfm.specs.DoubleDouble.{quick_mult_f64, mul_add, mul_add_f64, mul_f64_add, div_of, recip_of, fast_sqrt, to_f64, dd_f64_mul_add, log2_dd}
use Rattle.log_tables.specs.PowTables.{pow_inverse}
use Rattle.log_tables.specs.LogTable.{fast_log_dd_inv_lo, fast_log_dd_inv_hi}
use Rattle.pxfm.specs.PowExec.{p1, log_poly1}
use Rattle.pxfm.specs.FastLogDd.{scaled_of, index_of, factor_of, carry_of, reduced_of, exponent_of, parts_of, fast_log_dTo_dd}
use Rattle.pxfm.specs.Rationals.{paired11, paired14, p_asympt_small, q_asympt_small, p_asympt_long, q_asympt_long, inverf_asympt_small, inverf_asympt_long}
use Rattle.pxfm.specs.Inverfc.{zeta_sqrt, asymptotic, inverfc_extra_small, f_erfcinv}
use Rattle.limit.specs.Times.{in_range, times_in_range}
use Rattle.limit.specs.Formula.{quantile_of}
use Rattle.limit.specs.Limit.{chance_in_range}
use Rattle.law_order.specs.Order.{AtMost, ProfileOrder}
use Rattle.law_order.proofs.Limits.{limit_follows}
use Rattle.law_order.proofs.Sides.{limit_side}

-- the quantiles' bits
abbrev HasBits : ℕ → ℕ → Type 0
HasBits c b = quantile_of c ≡ of_bits binary64 b

pub record ProfileQuantiles : Type 0 where
  pub one : HasBits 1 0x400a_e3b1_9613_f297
  pub ten : HasBits 10 0x4008_2038_ba8b_e51c
  pub hundred : HasBits 100 0x4005_09b6_0e6d_fc0e
  pub thousand : HasBits 1_000 0x4001_7b22_6816_fd86

pub profile_quantiles : ProfileQuantiles
unfolding count_leading_zeros of_bits to_bits of_int is_nan eq lt le add sub mul div neg round isqrt round_root round_sqrt sqrt_in
    from_bit_pair neg_of split_of from_exact_mult from_exact_add from_full_exact_add full_add_f64 f64_add quick_mult
    quick_mult_f64 mul_add mul_add_f64 mul_f64_add div_of recip_of fast_sqrt to_f64 dd_f64_mul_add log2_dd
    pow_inverse p1 log_poly1 fast_log_dd_inv_lo fast_log_dd_inv_hi scaled_of index_of factor_of carry_of reduced_of exponent_of parts_of fast_log_dTo_dd
    paired11 paired14 p_asympt_small q_asympt_small p_asympt_long q_asympt_long inverf_asympt_small inverf_asympt_long zeta_sqrt asymptotic inverfc_extra_small
    f_erfcinv quantile_of
profile_quantiles = record { one = refl; ten = refl; hundred = refl; thousand = refl }

record Falls : Type 0 where
  ten : AtMost (quantile_of 10) (quantile_of 1)
  hundred : AtMost (quantile_of 100) (quantile_of 10)
  thousand : AtMost (quantile_of 1_000) (quantile_of 100)

falls : Falls
unfolding of_bits le lt eq
falls =
    let q = profile_quantiles in
    record { ten = rw (q.ten, q.one) refl; hundred = rw (q.hundred, q.ten) refl; thousand = rw (q.thousand, q.hundred) refl }

in_range_lem : (chance_in_range 1 ≡ true) × (chance_in_range 10 ≡ true) × (chance_in_range 100 ≡ true) × (chance_in_range 1_000 ≡ true)
unfolding chance_in_range in_range
in_range_lem = (refl, refl, refl, refl)

pub profile_order : (form : ℕ) (ts : List ℕ) → times_in_range ts ≡ true → ProfileOrder form ts
profile_order form ts r =
    let one = in_range_lem.0 in
    let ten = in_range_lem.1 in
    let hundred = in_range_lem.2 in
    let thousand = in_range_lem.3 in
    record {
      ten = (limit_follows form ts 10 1 r ten one).follows falls.ten;
      hundred = (limit_follows form ts 100 10 r hundred ten).follows falls.hundred;
      thousand = (limit_follows form ts 1_000 100 r thousand hundred).follows falls.thousand;
      mean = (limit_side form ts 1_000 r thousand).above (lit≤ tt);
    }
