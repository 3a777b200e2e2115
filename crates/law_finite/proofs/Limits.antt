-- Request 2026-06: every allowed set of times and every allowed chance give a finite limit, under both forms, of at most 5,242,885 ticks in size.
-- Assumes nothing.
use mathlib.Core.Path.{◌≡◌}
use mathlib.Core.Bool.{true}
use mathlib.Core.List.{List}
use Prim.Native.Nat.{ℕ, ◌*◌, ◌^◌, ◌≤◌}
use native.Mathlib.Omega.{arith}
use lib.ListN.{length}
use lib.Ieee.{binary64, div}
use Rattle.limit.specs.declared.sums.Sums.{Sums}
use Rattle.limit.specs.Times.{times_in_range, sum_of, squares_of}
use Rattle.limit.specs.Sums.{sums_of, is_plausible}
use Rattle.limit.specs.Formula.{double, half_million, quantile_of, formula_of}
use Rattle.limit.specs.Limit.{form_known, chance_in_range, judge, limit_of}
use Rattle.limit.proofs.InRange as range
use Rattle.limit.proofs.Plausible.{times_plausible}
use Rattle.law_bounds.specs.Interval.{In, about}
use Rattle.law_bounds.specs.Ranges.{argument_b, quantile_b}
use Rattle.law_bounds.proofs.Operations.{widen, size_at_most}
use Rattle.law_bounds.proofs.Estimate.{over_e}
use Rattle.law_bounds.proofs.Whole.{whole_e}
use Rattle.law_bounds.proofs.Quantile.{quantile_in}
use Rattle.law_finite.specs.Finite.{FiniteUnder, FiniteLimits, max_spread, max_limit, SmallUnder}
use Rattle.law_finite.proofs.Formula.{form_within}

-- ---- the quantile of a chance

argument_in : (c : ℕ) → 1 ≤ c → c ≤ 999999 → In (div binary64 (double c) (double half_million)) argument_b
unfolding whole_e over_e
argument_in c a b =
    widen argument_b tt (over_e (whole_e c 1 999999 a b tt) (whole_e half_million 500000 500000 (omega arith) (omega arith) tt)).holds

pub chance_quantile : (c : ℕ) → chance_in_range c ≡ true → In (quantile_of c) quantile_b
unfolding quantile_of chance_in_range
chance_quantile c h =
    quantile_in (div binary64 (double c) (double half_million)) (argument_in c (range.at_least 1 999999 c h) (range.at_most 1 999999 c h))

-- ---- the sums of allowed times

module _ (form : ℕ) (sums : Sums) (c : ℕ) (p : is_plausible sums ≡ true) (h : chance_in_range c ≡ true) where
  pub small_under : SmallUnder form sums.count sums.sum sums.squares c
  unfolding formula_of
  small_under =
      let w = form_within sums p form in
      let q = chance_quantile c h in
      record {
        mean = size_at_most (2 ^ 20) (widen (about true (2 ^ 20 * 2 ^ 1074)) tt w.mean_in);
        spread = size_at_most max_spread (widen (about true (max_spread * 2 ^ 1074)) tt w.spread_in);
        quantile = size_at_most 4 q;
        limit = size_at_most max_limit (w.ends (quantile_of c) q).above;
      }

  pub finite_under : FiniteUnder form sums.count sums.sum sums.squares c
  finite_under =
      let z = small_under in
      record { mean = z.mean.is_finite; spread = z.spread.is_finite; quantile = z.quantile.is_finite; limit = z.limit.is_finite }

-- ---- the times

-- For both forms, every list of 2 to 128 times from 1 to 1,048,575 and every chance from 1 to 999,999.
pub finite_limits : (form : ℕ) (ts : List ℕ) (c : ℕ) → form_known form ≡ true → times_in_range ts ≡ true → chance_in_range c ≡ true
    → FiniteLimits form ts c
unfolding sums_of limit_of judge
finite_limits form ts c k r h = record { under = finite_under form (sums_of ts) c (times_plausible ts r) h; given = rw (k, h, r) }

-- The same times and chances: mean, spread, quantile and limit are small.
pub small_limits : (form : ℕ) (ts : List ℕ) (c : ℕ) → times_in_range ts ≡ true → chance_in_range c ≡ true
    → SmallUnder form (length ts) (sum_of ts) (squares_of ts) c
unfolding sums_of
small_limits form ts c r h = small_under form (sums_of ts) c (times_plausible ts r) h
