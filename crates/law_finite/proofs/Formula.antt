-- The formula for the sums of allowed times and any quantile of at most 4 in size: intervals of mean, spread and both ends. Assumes nothing.
-- A mean is at most the greatest time. 4 × D is at most the square of n times the greatest time, so that D / (n × (n - 1)) is below 2 ^ 39.
-- Both quotients' intervals are computed for each number of times.
use mathlib.Core.Path.{◌≡◌, subst}
use mathlib.Core.Bool.{Bool, true, false, cond, ◌&&◌}
use Prim.Native.Nat.{ℕ, ◌+◌, ◌-◌, ◌*◌, ◌/◌, ◌^◌, ◌≤◌}
use native.Mathlib.Nat.{le_refl, le-div_iff_mul-le, mul-le-mul_left}
use native.Mathlib.Omega.{arith}
use lib.Dec.{T, leb, eqb, lit<}
use lib.Ieee.{Float, binary64, of_bits, div, sub, mul}
use lib.Ieee.Fits.{and_l, and_r}
use Rattle.limit.specs.declared.sums.Sums.{Sums}
use Rattle.limit.specs.Times.{max_ticks}
use Rattle.limit.specs.Sums.{is_plausible}
use Rattle.limit.specs.Formula.{double, root_two, sample_form, divisor_of, mean_of, scatter_of, spread_by, spread_of, limit_from}
use Rattle.limit.proofs.Cauchy.{twice_product}
use Rattle.limit.proofs.Plausible.{plausible_facts}
use Rattle.law_bounds.specs.Interval.{Interval, In, about, between}
use Rattle.law_bounds.specs.Ranges.{quantile_b}
use Rattle.law_bounds.proofs.Arithmetic.{limit, raised, lowered, div_b, within}
use Rattle.law_bounds.proofs.Operations.{widen, div_in}
use Rattle.law_bounds.proofs.Estimate.{given, point, sum_e, less_e, times_e}
use Rattle.law_bounds.proofs.Root.{root_e}
use Rattle.law_bounds.proofs.Whole.{whole_in}
use Rattle.law_bounds.proofs.Table.{all, all_at}
use Rattle.law_finite.specs.Finite.{max_spread, max_limit}

-- ---- the ranges, in units of 2 ^ -1074

-- from 1 / 2 to 2 ^ 20
abbrev pub mean_b : Interval
mean_b = between (2 ^ 1073) (2 ^ 20 * 2 ^ 1074)

-- D / divisor: up to 2 ^ 39
abbrev variance_b : Interval
variance_b = between 0 (2 ^ 39 * 2 ^ 1074)

abbrev pub spread_b : Interval
spread_b = between 0 (max_spread * 2 ^ 1074)

abbrev pub limit_b : Interval
limit_b = about true (max_limit * 2 ^ 1074)

-- ---- quotients of whole numbers

-- a whole number from l to h, as a double
abbrev pub whole_b : ℕ → ℕ → Interval
whole_b l h = between (lowered (l * 2 ^ 1074)) (raised (h * 2 ^ 1074))

-- c / d lies in b, for every c from l to h
abbrev pub quotient_fits : ℕ → ℕ → ℕ → Interval → Bool
quotient_fits l h d b = leb (h * 2 ^ 1074) limit && leb (d * 2 ^ 1074) limit && within (div_b (whole_b l h) (whole_b d d)) b

pub quotient_in : (c l h d : ℕ) (b : Interval) → l ≤ c → c ≤ h → T (quotient_fits l h d b) → In (div binary64 (double c) (double d)) b
quotient_in c l h d b i j t =
    let o = and_l (leb (h * 2 ^ 1074) limit && leb (d * 2 ^ 1074) limit) _ t in
    widen b (and_r (leb (h * 2 ^ 1074) limit && leb (d * 2 ^ 1074) limit) _ t)
    (div_in (whole_in c l h i j (and_l (leb (h * 2 ^ 1074) limit) _ o)) (whole_in d d d (le_refl d) (le_refl d) (and_r (leb (h * 2 ^ 1074) limit) _ o)))

-- at k + 2 times
mean_fits : ℕ → Bool
unfolding div_b lowered raised
mean_fits k = quotient_fits (k + 2) ((k + 2) * max_ticks) (k + 2) mean_b

-- a quarter of the square of n times the greatest time
abbrev pub scatter_top : ℕ → ℕ
scatter_top n = n * max_ticks * (n * max_ticks) / 4

sample_fits : ℕ → Bool
unfolding div_b lowered raised
sample_fits k = quotient_fits 0 (scatter_top (k + 2)) ((k + 2) * (k + 2 - 1)) variance_b

plain_fits : ℕ → Bool
unfolding div_b lowered raised
plain_fits k = quotient_fits 0 (scatter_top (k + 2)) ((k + 2) * (k + 2)) variance_b

-- a test that holds at each k below 127 holds at n - 2
pub at_count : (f : ℕ → Bool) (n : ℕ) → T (all f 127) → 2 ≤ n → n ≤ 128 → T (f (n - 2))
at_count f n t a b = all_at f 127 (n - 2) t (omega arith)

module _ (n : ℕ) (a : 2 ≤ n) (b : n ≤ 128) where
  same : n - 2 + 2 ≡ n
  same = omega arith

  mean_in : (s : ℕ) → n ≤ s → s ≤ n * max_ticks → In (mean_of n s) mean_b
  unfolding mean_of mean_fits
  mean_in s i j =
      quotient_in s n (n * max_ticks) n mean_b i j
      (subst (λ (k : ℕ). T (quotient_fits k (k * max_ticks) k mean_b)) same (at_count mean_fits n tt a b))

  sample_in : (d : ℕ) → d ≤ scatter_top n → In (div binary64 (double d) (double (n * (n - 1)))) variance_b
  unfolding sample_fits
  sample_in d j =
      quotient_in d 0 (scatter_top n) (n * (n - 1)) variance_b (omega arith) j
      (subst (λ (k : ℕ). T (quotient_fits 0 (scatter_top k) (k * (k - 1)) variance_b)) same (at_count sample_fits n tt a b))

  plain_in : (d : ℕ) → d ≤ scatter_top n → In (div binary64 (double d) (double (n * n))) variance_b
  unfolding plain_fits
  plain_in d j =
      quotient_in d 0 (scatter_top n) (n * n) variance_b (omega arith) j
      (subst (λ (k : ℕ). T (quotient_fits 0 (scatter_top k) (k * k) variance_b)) same (at_count plain_fits n tt a b))

spread_by_lem : (v d : ℕ) → In (div binary64 (double d) (double v)) variance_b → In (spread_by v d) spread_b
unfolding spread_by root_e
spread_by_lem v d h = widen spread_b tt (root_e (given h)).holds

-- ---- mean, spread, and both ends for every quantile

pub record Ends (mean spread e : Float) : Type 0 where
  pub above : In (limit_from mean spread e) limit_b
  pub below : In (sub binary64 mean (mul binary64 (mul binary64 spread root_two) e)) limit_b

pub record Within (mean spread : Float) : Type 0 where
  pub mean_in : In mean mean_b
  pub spread_in : In spread spread_b
  pub ends : (e : Float) → In e quantile_b → Ends mean spread e

within_of : (mean spread : Float) → In mean mean_b → In spread spread_b → Within mean spread
unfolding limit_from sum_e less_e times_e point of_bits
within_of mean spread m s =
    record {
      mean_in = m;
      spread_in = s;
      ends = λ e q.
          let t = times_e (times_e (given s) (point root_two)) (given q) in
          record { above = widen limit_b tt (sum_e (given m) t).holds; below = widen limit_b tt (less_e (given m) t).holds };
    }

-- ---- the sums of allowed times, under both forms

module _ (n s q : ℕ) (summed : s ≤ n * max_ticks) (squared : q ≤ max_ticks * s) where
  pub scatter_top_lem : scatter_of n s q ≤ scatter_top n
  scatter_top_lem = (le-div_iff_mul-le (lit< tt)).1 (omega (arith, mul-le-mul_left n squared, twice_product (n * max_ticks) (2 * s)))

pub form_within : (sums : Sums) → is_plausible sums ≡ true → (form : ℕ)
    → Within (mean_of sums.count sums.sum) (spread_of form sums.count sums.sum sums.squares)
unfolding spread_of divisor_of
form_within sums p form =
    let f = plausible_facts sums p in
    let m = mean_in n f.count_low f.count_high s (omega (arith, f.sum_low)) f.sum_high in
    let d = scatter_top_lem n s q f.sum_high f.squares_high in
    within_of (mean_of n s) (spread_by (cond (eqb form sample_form) (n * (n - 1)) (n * n)) (scatter_of n s q)) m
    (by_test_lem (eqb form sample_form) (scatter_of n s q) (spread_by_lem (n * (n - 1)) (scatter_of n s q) (sample_in n f.count_low f.count_high (scatter_of n s q) d))
    (spread_by_lem (n * n) (scatter_of n s q) (plain_in n f.count_low f.count_high (scatter_of n s q) d)))
  where
    n : ℕ
    n = sums.count

    s : ℕ
    s = sums.sum

    q : ℕ
    q = sums.squares

    by_test_lem : (b : Bool) (d : ℕ) → In (spread_by (n * (n - 1)) d) spread_b → In (spread_by (n * n) d) spread_b
        → In (spread_by (cond b (n * (n - 1)) (n * n)) d) spread_b
    by_test_lem true d h g = h
    by_test_lem false d h g = g
