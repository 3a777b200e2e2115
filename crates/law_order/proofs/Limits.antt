-- Limits in order. At even chances the quantile is +0, the product with it a zero, and the mean with nothing added is the mean; where one quantile
-- is at most another, so is the product with a spread that is not below zero, and so is the sum with the mean. Assumes nothing.
use mathlib.Core.Path.{◌≡◌, refl, ap, ◌∙◌}
use mathlib.Core.Bool.{true, false}
use mathlib.Core.List.{List}
use Prim.Native.Nat.{ℕ, ◌*◌, ◌^◌, ◌<◌}
use native.Mathlib.Nat.{lt_of_lt_of_le}
use native.Mathlib.Omega.{arith}
use lib.Dec.{T}
use lib.ListN.{length}
use lib.Pow.{pow_pos}
use lib.Ieee.{Float, binary64, fits, is_nan, of_bits, to_bits, of_int, round, eq, lt, sub, mul, div}
use lib.Ieee.Fits.{div-fits}
use Rattle.pxfm.specs.Argument.{zero}
use Rattle.pxfm.specs.Inverfc.{f_erfcinv}
use Rattle.limit.specs.declared.sums.Sums.{Sums}
use Rattle.limit.specs.Times.{times_in_range, sum_of, squares_of}
use Rattle.limit.specs.Sums.{sums_of, is_plausible}
use Rattle.limit.specs.Formula.{double, root_two, half_million, mean_of, spread_of, quantile_of, limit_from, formula_of}
use Rattle.limit.specs.Limit.{chance_in_range}
use Rattle.limit.proofs.Plausible.{times_plausible}
use Rattle.law_bounds.specs.Interval.{Interval, In, between, about}
use Rattle.law_bounds.specs.Ranges.{quantile_b}
use Rattle.law_bounds.proofs.Arithmetic.{point_b}
use Rattle.law_bounds.proofs.Operations.{widen, point_in, counted, Counted}
use Rattle.law_bounds.proofs.Estimate.{given, point, times_e}
use Rattle.law_finite.proofs.Formula.{mean_b, spread_b, form_within}
use Rattle.law_finite.proofs.Limits.{chance_quantile}
use Rattle.law_order.specs.Order.{AtMost, mean_at, limit_at, even_chance, EvenLimit, LimitOrder}
use Rattle.law_order.proofs.Keeps.{Units, NotBelow, add_order, mul_order}
use Rattle.law_order.proofs.Nothing.{add_nothing, sub_nothing, mul_nothing}

-- ---- numbers in an interval

pub in_units : {x : Float} (b : Interval) → T b.ok → In x b → Units x
in_units b t p = let v = p.at t in record { s = v.s; m = v.m; val = v.val }

-- from 0 up: not below zero
not_below : {x : Float} (h : ℕ) → In x (between 0 h) → NotBelow x
not_below h p = let v = p.at tt in record { units = record { s = v.s; m = v.m; val = v.val }; sign = omega (arith, v.holds.low) }

pub zero_in : In zero quantile_b
unfolding point_b of_bits
zero_in = widen quantile_b tt (point_in zero)

-- ---- a mean above zero and a spread that is not below it

pub record Ready (mean spread : Float) : Type 0 where
  pub double : T (fits binary64 mean)
  pub mean_in : In mean mean_b
  pub spread_in : In spread spread_b

-- the spread's factor, and its product with a quantile: coarse bounds
abbrev factor_b : Interval
factor_b = between 0 (2 ^ 1100)

abbrev product_b : Interval
product_b = about true (2 ^ 1110)

module _ {mean spread : Float} (r : Ready mean spread) where
  mean_counted : Counted mean (2 ^ 1073) (2 ^ 20 * 2 ^ 1074)
  mean_counted = counted (2 ^ 1073) (2 ^ 20 * 2 ^ 1074) (pow_pos 1073) r.mean_in

  mean_some : 0 < mean_counted.n
  mean_some = lt_of_lt_of_le (pow_pos 1073) mean_counted.low

  pub mean_units : Units mean
  mean_units = record { s = false; m = mean_counted.n; val = mean_counted.val }

  pub factor : NotBelow (mul binary64 spread root_two)
  unfolding times_e point of_bits
  factor = not_below (2 ^ 1100) (widen factor_b tt (times_e (given r.spread_in) (point root_two)).holds)

  pub product_units : (e : Float) → In e quantile_b → Units (mul binary64 (mul binary64 spread root_two) e)
  unfolding times_e point of_bits
  product_units e h = in_units product_b tt (widen product_b tt (times_e (times_e (given r.spread_in) (point root_two)) (given h)).holds)

  -- with the quantile +0
  pub limit_none : limit_from mean spread zero ≡ mean
  unfolding limit_from
  limit_none =
      let z = mul_nothing (mul binary64 spread root_two) factor.units in
      add_nothing mean (mul binary64 (mul binary64 spread root_two) zero) false z.0 mean_counted.n r.double mean_counted.val mean_some z.1

  pub less_none : sub binary64 mean (mul binary64 (mul binary64 spread root_two) zero) ≡ mean
  less_none =
      let z = mul_nothing (mul binary64 spread root_two) factor.units in
      sub_nothing mean (mul binary64 (mul binary64 spread root_two) zero) false z.0 mean_counted.n r.double mean_counted.val mean_some z.1

  -- with two quantiles
  pub product_order : (d e : Float) → In d quantile_b → In e quantile_b → AtMost d e
      → AtMost (mul binary64 (mul binary64 spread root_two) d) (mul binary64 (mul binary64 spread root_two) e)
  product_order d e D E h = mul_order factor.units (in_units quantile_b tt D) (in_units quantile_b tt E) h factor.sign

  pub limit_order : (d e : Float) → In d quantile_b → In e quantile_b → AtMost d e → AtMost (limit_from mean spread d) (limit_from mean spread e)
  unfolding limit_from
  limit_order d e D E h = add_order mean_units (product_units d D) (product_units e E) (product_order d e D E h)

-- ---- the sums of allowed times

pub ready : (sums : Sums) → is_plausible sums ≡ true → (form : ℕ)
    → Ready (mean_of sums.count sums.sum) (spread_of form sums.count sums.sum sums.squares)
unfolding mean_of
ready sums p form =
    let w = form_within sums p form in
    record { double = div-fits binary64 (double sums.sum) (double sums.count); mean_in = w.mean_in; spread_in = w.spread_in }

-- ---- the laws

pub quantile_even : quantile_of half_million ≡ zero
unfolding quantile_of f_erfcinv of_int div round of_bits eq lt is_nan
quantile_even = refl

pub even_limit : (form : ℕ) (ts : List ℕ) → times_in_range ts ≡ true → EvenLimit form ts
unfolding formula_of sums_of
even_limit form ts r =
    let s = ready (sums_of ts) (times_plausible ts r) form in
    let e : limit_at form ts even_chance ≡ mean_at ts =
    ap (λ (q : Float). limit_from (mean_of (length ts) (sum_of ts)) (spread_of form (length ts) (sum_of ts) (squares_of ts)) q) quantile_even ∙ limit_none s in
    record { same = e; bits = ap (to_bits binary64) e }

pub limit_follows : (form : ℕ) (ts : List ℕ) (d c : ℕ) → times_in_range ts ≡ true → chance_in_range d ≡ true → chance_in_range c ≡ true
    → LimitOrder form ts d c
unfolding formula_of sums_of
limit_follows form ts d c r i j =
    let s = ready (sums_of ts) (times_plausible ts r) form in
    record { follows = λ h. limit_order s (quantile_of d) (quantile_of c) (chance_quantile d i) (chance_quantile c j) h }
