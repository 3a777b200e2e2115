-- A report leaves no figure out: for every allowed set of times and every allowed chance, under both forms, mean, spread and limit have their exact
-- decimal and their whole ticks. Assumes nothing.
use mathlib.Core.Path.{◌≡◌}
use mathlib.Core.Bool.{true, false}
use mathlib.Core.List.{List}
use Prim.Native.Nat.{ℕ, ◌*◌, ◌^◌, ◌≤◌}
use native.Mathlib.Omega.{arith}
use native.Mathlib.Nat.{le_trans}
use lib.Dec.{T, eqb, lit<, leb→le}
use lib.Pow.{pow_pos}
use lib.ListN.{length}
use lib.Ieee.{Float, nan, inf, fin, binary64, fits, of_bits, mul}
use lib.Ieee.Exact.{HasValue}
use lib.Ieee.Fits.{div-fits, mul-fits, add-fits}
use Rattle.limit.specs.declared.sums.Sums.{Sums}
use Rattle.limit.specs.Times.{times_in_range, sum_of, squares_of}
use Rattle.limit.specs.Sums.{sums_of, is_plausible}
use Rattle.limit.specs.Formula.{double, root_two, sample_form, divisor_of, mean_of, scatter_of, spread_of, quantile_of, limit_from, formula_of}
use Rattle.limit.specs.Limit.{chance_in_range}
use Rattle.limit.proofs.Plausible.{plausible_facts, times_plausible}
use Rattle.law_bounds.specs.Interval.{In, SizeAtMost}
use Rattle.law_bounds.specs.Ranges.{quantile_b}
use Rattle.law_bounds.proofs.Operations.{widen, counted}
use Rattle.law_bounds.proofs.Estimate.{given, point, times_e}
use Rattle.law_finite.specs.Finite.{max_spread, max_limit}
use Rattle.law_finite.proofs.Formula.{mean_b, spread_b, form_within, scatter_top_lem}
use Rattle.law_finite.proofs.Limits.{chance_quantile, small_under}
use Rattle.text_ticks.specs.Ticks.{minus_of, ticks_up, ticks_near}
use Rattle.text_ticks.specs.Text.{ticks_text}
use Rattle.text_ticks.proofs.Longest.{sign_place_lem, up_text_within, near_text_within}
use Rattle.text_ticks.proofs.Least.{rounds_up}
use Rattle.text_ticks.proofs.Near.{rounds_near}
use Rattle.law_shown.specs.Shown.{max_moment, max_slot, ShownUnder}
use Rattle.law_shown.proofs.Multiples.{Multiple, multiple, in_range_lem, exact_of}
use Rattle.law_shown.proofs.Sum.{share_b, mean_sum}
use Rattle.law_shown.proofs.Spread.{spread_fits, spread_multiple}

-- ---- each is a double

pub mean_fits_lem : (n s : ℕ) → T (fits binary64 (mean_of n s))
unfolding mean_of
mean_fits_lem n s = div-fits binary64 (double s) (double n)

pub spread_of_fits : (form n s q : ℕ) → T (fits binary64 (spread_of form n s q))
unfolding spread_of
spread_of_fits form n s q = spread_fits (divisor_of form n) (scatter_of n s q)

pub formula_fits : (form n s q c : ℕ) → T (fits binary64 (formula_of form n s q c))
unfolding formula_of limit_from
formula_fits form n s q c = add-fits binary64 (mean_of n s) (mul binary64 (mul binary64 (spread_of form n s q) root_two) (quantile_of c))

-- ---- each is a whole number of 2 ^ -60

mean_multiple : (n s : ℕ) → In (mean_of n s) mean_b → Multiple (mean_of n s)
mean_multiple n s h =
    let v = counted (2 ^ 1073) (2 ^ 20 * 2 ^ 1074) (pow_pos 1073) h in
    multiple (mean_of n s) false v.n (mean_fits_lem n s) v.val (le_trans (leb→le _ _ tt) v.low)

-- (spread × 1.4142135623730951) × e
share_in : (spread e : Float) → In spread spread_b → In e quantile_b → In (mul binary64 (mul binary64 spread root_two) e) share_b
unfolding times_e point of_bits
share_in spread e h q = widen share_b tt (times_e (times_e (given h) (point root_two)) (given q)).holds

limit_multiple : (n s : ℕ) (spread e : Float) → In (mean_of n s) mean_b → In spread spread_b → In e quantile_b
    → Multiple (limit_from (mean_of n s) spread e)
unfolding limit_from
limit_multiple n s spread e h g q =
    mean_sum (mean_of n s) (mul binary64 (mul binary64 spread root_two) e) (mean_fits_lem n s)
    (mul-fits binary64 (mul binary64 spread root_two) e) h (share_in spread e g q)

-- ---- their texts, in milliseconds

no_sign : (x : Float) (m c : ℕ) → HasValue x false m c → minus_of x ≡ false
no_sign nan m c v = absurd v
no_sign (inf s) m c v = absurd v
no_sign (fin s m e) a c v = v.0

-- a mean has no sign, and at most five digits before the point
mean_short : (n s : ℕ) → In (mean_of n s) mean_b → SizeAtMost (mean_of n s) (2 ^ 20) → length (ticks_text (ticks_near (mean_of n s))) ≤ max_moment
mean_short n s h z =
    let v = counted (2 ^ 1073) (2 ^ 20 * 2 ^ 1074) (pow_pos 1073) h in
    let t = near_text_within (mean_of n s) (2 ^ 20) 5 (omega arith) (omega arith) z.size in
    rw (no_sign (mean_of n s) v.n (2 ^ 1074) v.val) at t

-- a spread has at most four
spread_short : (x : Float) → SizeAtMost x max_spread → length (ticks_text (ticks_near x)) ≤ max_moment
spread_short x z =
    omega (arith, sign_place_lem (minus_of x), near_text_within x max_spread 4 (omega arith) (omega arith) z.size)

limit_short : (x : Float) → SizeAtMost x max_limit → length (ticks_text (ticks_up x)) ≤ max_slot
limit_short x z =
    omega (arith, sign_place_lem (minus_of x), up_text_within x max_limit 5 (omega arith) (omega arith) z.size)

-- ---- the sums of allowed times

module _ (form : ℕ) (sums : Sums) (c : ℕ) (p : is_plausible sums ≡ true) (h : chance_in_range c ≡ true) where
  abbrev n : ℕ
  n = sums.count

  abbrev s : ℕ
  s = sums.sum

  abbrev q : ℕ
  q = sums.squares

  spread_shown : Multiple (spread_of form n s q)
  unfolding spread_of divisor_of
  spread_shown =
      let f = plausible_facts sums p in
      spread_multiple n f.count_low f.count_high (scatter_of n s q) (scatter_top_lem n s q f.sum_high f.squares_high) (eqb form sample_form)

  pub shown_under : ShownUnder form n s q c
  unfolding formula_of
  shown_under =
      let w = form_within sums p form in
      let z = small_under form sums c p h in
      let m = in_range_lem (mean_of n s) (2 ^ 20) (lit< tt) z.mean in
      let d = in_range_lem (spread_of form n s q) max_spread (lit< tt) z.spread in
      let l = in_range_lem (formula_of form n s q c) max_limit (lit< tt) z.limit in
      record {
        mean =
            record {
              exact = exact_of (mean_of n s) (mean_fits_lem n s) m (mean_multiple n s w.mean_in);
              ticks = rounds_near (mean_of n s) m;
              short = mean_short n s w.mean_in z.mean;
            };
        spread =
            record {
              exact = exact_of (spread_of form n s q) (spread_of_fits form n s q) d spread_shown;
              ticks = rounds_near (spread_of form n s q) d;
              short = spread_short (spread_of form n s q) z.spread;
            };
        limit =
            record {
              exact =
                  exact_of (formula_of form n s q c) (formula_fits form n s q c) l
                  (limit_multiple n s (spread_of form n s q) (quantile_of c) w.mean_in w.spread_in (chance_quantile c h));
              ticks = rounds_up (formula_of form n s q c) l;
              short = limit_short (formula_of form n s q c) z.limit;
            };
      }

-- ---- the times

-- For both forms, every list of 2 to 128 times from 1 to 1,048,575 and every chance from 1 to 999,999.
pub shown_limits : (form : ℕ) (ts : List ℕ) (c : ℕ) → times_in_range ts ≡ true → chance_in_range c ≡ true
    → ShownUnder form (length ts) (sum_of ts) (squares_of ts) c
unfolding sums_of
shown_limits form ts c r h = shown_under form (sums_of ts) c (times_plausible ts r) h
