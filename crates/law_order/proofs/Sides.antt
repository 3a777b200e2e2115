-- On which side of the mean a limit lies, and that the mean lies in every band: the quantile's sign, through the order law from even chances, where the
-- limit is the mean; and likewise the inverse error function's, from a band of no width. Assumes nothing.
use mathlib.Core.Path.{◌≡◌, refl, sym, ap, ◌∙◌, subst}
use mathlib.Core.Bool.{Bool, true, false}
use mathlib.Core.List.{List}
use mathlib.Core.Logic.{◌⊎◌, inl, inr}
use Prim.Native.Nat.{ℕ, ◌+◌, ◌-◌, ◌*◌, ◌^◌, ◌≤◌, ◌<◌}
use native.Mathlib.Nat.{lt_of_lt_of_le, lt_of_le_of_lt, eq-or-lt_of_le}
use native.Mathlib.Omega.{arith}
use lib.Dec.{lit<, lit≤}
use lib.Pow.{pow_pos}
use lib.Ieee.{Float, nan, inf, fin, binary64, fits, of_bits, div, lt, le, eq}
use lib.Ieee.Bits.{is_true}
use lib.Ieee.Exact.{HasValue}
use lib.Ieee.Fits.{div-fits}
use Rattle.pxfm.specs.DoubleDouble.{new_of, one, two, to_f64}
use Rattle.pxfm.specs.Argument.{zero}
use Rattle.pxfm.specs.Inverfc.{erf_core}
use Rattle.pxfm.specs.Inverf.{with_sign}
use Rattle.pxfm.proofs.Units.{val_whole}
use Rattle.pxfm.proofs.Order.{lt_of_val}
use Rattle.pxfm.proofs.Ranges.{zero_val, one_val, two_val}
use Rattle.limit.specs.Times.{times_in_range}
use Rattle.limit.specs.Sums.{sums_of}
use Rattle.limit.specs.Formula.{double, sample_form, half_million, quantile_of, limit_from}
use Rattle.limit.specs.Limit.{chance_in_range}
use Rattle.limit.proofs.InRange as range
use Rattle.limit.proofs.Plausible.{times_plausible}
use Rattle.band.specs.Band.{min_share, max_share, million, share_in_range, inverse_of, ends_from, ends_of}
use Rattle.law_bounds.specs.Interval.{In, between}
use Rattle.law_bounds.proofs.Arithmetic.{point_b}
use Rattle.law_bounds.proofs.Operations.{widen, Counted, counted, point_in}
use Rattle.law_bounds.proofs.Estimate.{over_e}
use Rattle.law_bounds.proofs.Whole.{whole_e}
use Rattle.law_finite.proofs.Band.{within_answer, share_in}
use Rattle.law_order.specs.Order.{AtMost, Below, even_chance, limit_at, LimitSide, low_at, high_at, MeanInside}
use Rattle.law_order.proofs.Limits.{quantile_even, zero_in, limit_none, less_none, limit_order, ready, even_limit, limit_follows}
use Rattle.law_order.proofs.Bands.{less_order, share_inverse}
use Rattle.law_order.specs.Ranges.{above_b, zero_b, inside_b, Plain}
use Rattle.law_order.proofs.Above.{decide}
use Rattle.law_order.proofs.Core.{plain_above}
use Rattle.law_order.proofs.Signs.{quantile_sign}

at_most : (x y : Float) → Below x y → AtMost x y
unfolding le
at_most x y h = rw h refl

-- ---- the quantile of a chance

module _ {x : Float} {l h : ℕ} (c : Counted x l h) where
  above_zero : 0 < l → Below zero x
  above_zero p = is_true (lt zero x) (lt_of_val (zero_val 0) (val_whole c.val) (plain c.n (lt_of_lt_of_le p c.low)))
    where
      plain : (n : ℕ) → 0 < n → 0 + 0 < n + 0
      plain n q = omega arith

  below_one : h < 2 ^ 1074 → Below x one
  below_one p = is_true (lt x one) (lt_of_val (val_whole c.val) (one_val 1074 0 refl) (plain c.n (2 ^ 1074) (lt_of_le_of_lt c.high p)))
    where
      plain : (n k : ℕ) → n < k → n + 0 < 1 * k + 0
      plain n k q = omega arith

  above_one : 2 ^ 1074 < l → Below one x
  above_one p = is_true (lt one x) (lt_of_val (one_val 1074 0 refl) (val_whole c.val) (plain c.n (2 ^ 1074) (lt_of_lt_of_le p c.low)))
    where
      plain : (n k : ℕ) → k < n → 1 * k + 0 < n + 0
      plain n k q = omega arith

  below_two : h < 2 ^ 1075 → Below x two
  below_two p = is_true (lt x two) (lt_of_val (val_whole c.val) (two_val 1075 0 refl) (plain c.n (2 ^ 1075) (lt_of_le_of_lt c.high p)))
    where
      plain : (n k : ℕ) → n < k → n + 0 < 1 * k + 0
      plain n k q = omega arith

module _ (c : ℕ) where
  abbrev x : Float
  x = div binary64 (double c) (double half_million)

  x_fits : fits binary64 x ≡ true
  x_fits = is_true (fits binary64 x) (div-fits binary64 (double c) (double half_million))

  before : 1 ≤ c → c < 500_000 → Counted x (2 ^ 1054) (2 ^ 1074 - 2 ^ 1054)
  unfolding whole_e over_e
  before a b =
      let e = over_e (whole_e c 1 499_999 a (omega arith) tt) (whole_e half_million 500_000 500_000 (omega arith) (omega arith) tt) in
      counted (2 ^ 1054) (2 ^ 1074 - 2 ^ 1054) (pow_pos 1054) (decide (between (2 ^ 1054) (2 ^ 1074 - 2 ^ 1054)) e tt)

  after : 500_000 < c → c ≤ 999_999 → Counted x (2 ^ 1074 + 2 ^ 1054) (2 ^ 1075 - 2 ^ 1054)
  unfolding whole_e over_e
  after a b =
      let e = over_e (whole_e c 500_001 999_999 (omega arith) b tt) (whole_e half_million 500_000 500_000 (omega arith) (omega arith) tt) in
      counted (2 ^ 1074 + 2 ^ 1054) (2 ^ 1075 - 2 ^ 1054) (lit< tt) (decide (between (2 ^ 1074 + 2 ^ 1054) (2 ^ 1075 - 2 ^ 1054)) e tt)

  even_zero : c ≡ 500_000 → quantile_of c ≡ zero
  even_zero e = ap quantile_of e ∙ quantile_even

  zero_self : AtMost zero zero
  unfolding le lt eq of_bits
  zero_self = refl

  -- the quantile at even chances is at most that at c, or at least it
  pub even_below : 1 ≤ c → c ≤ 500_000 → AtMost (quantile_of even_chance) (quantile_of c)
  unfolding quantile_of
  even_below a b = rw quantile_even (go (eq-or-lt_of_le b))
    where
      go : (c ≡ 500_000) ⊎ (c < 500_000) → AtMost zero (quantile_of c)
      go (inl e) = rw (even_zero e) zero_self
      go (inr h) =
          let d = before a h in
          at_most zero (quantile_of c) ((quantile_sign x x_fits).above (above_zero d (pow_pos 1054)) (below_one d (lit< tt)))

  pub even_above : 500_000 ≤ c → c ≤ 999_999 → AtMost (quantile_of c) (quantile_of even_chance)
  unfolding quantile_of
  even_above a b = rw quantile_even (go (eq-or-lt_of_le a))
    where
      go : (500_000 ≡ c) ⊎ (500_000 < c) → AtMost (quantile_of c) zero
      go (inl e) = rw (even_zero (sym e)) zero_self
      go (inr h) =
          let d = after h b in
          at_most (quantile_of c) zero ((quantile_sign x x_fits).below (above_one d (lit< tt)) (below_two d (lit< tt)))

even_in_range : chance_in_range even_chance ≡ true
unfolding chance_in_range
even_in_range = range.inside 1 999_999 500_000 (lit≤ tt) (lit≤ tt)

pub limit_side : (form : ℕ) (ts : List ℕ) (c : ℕ) → times_in_range ts ≡ true → chance_in_range c ≡ true → LimitSide form ts c
unfolding chance_in_range
limit_side form ts c r h =
    let e = (even_limit form ts r).same in
    record {
      above = λ b.
          subst (λ (y : Float). AtMost y (limit_at form ts c)) e
          ((limit_follows form ts even_chance c r even_in_range h).follows (even_below c (range.at_least 1 999_999 c h) b));
      below = λ b.
          subst (λ (y : Float). AtMost (limit_at form ts c) y) e
          ((limit_follows form ts c even_chance r h even_in_range).follows (even_above c b (range.at_most 1 999_999 c h)));
    }

-- ---- the inverse error function of a share

plus_itself : (y : Float) (n : ℕ) → HasValue y false n (2 ^ 1074) → with_sign false y ≡ y
unfolding with_sign
plus_itself nan n v = absurd v
plus_itself (inf s) n v = absurd v
plus_itself (fin s m e) n v = ap (λ (t : Bool). fin t m e) (sym v.0)

module _ (w : ℕ) (a : 1 ≤ w) (b : w ≤ 999_999) where
  abbrev y : Float
  y = div binary64 (double w) (double million)

  share_plain : Plain (new_of zero y)
  unfolding point_b of_bits
  share_plain =
      record {
        double = div-fits binary64 (double w) (double million);
        lo = widen zero_b tt (point_in zero);
        hi = widen inside_b tt (share_in w a b);
      }

  inverse_in : In (inverse_of w) above_b
  unfolding inverse_of
  inverse_in =
      let c = counted (2 ^ 1054) (2 ^ 1074 - 33 * 2 ^ 1049) (lit< tt) (share_in w a b) in
      let e = within_answer y c.n c.val (lt_of_lt_of_le (lit< tt) c.low) (lt_of_le_of_lt c.high (lit< tt)) in
      let p = plain_above (new_of zero y) share_plain in
      let d = counted 1 (2 ^ 1080) (lit< tt) p in
      rw (e, plus_itself (to_f64 (erf_core (new_of zero y))) d.n d.val) p

  pub inverse_above : AtMost zero (inverse_of w)
  inverse_above = at_most zero (inverse_of w) (above_zero (counted 1 (2 ^ 1080) (lit< tt) inverse_in) (lit< tt))

pub mean_inside : (ts : List ℕ) (w : ℕ) → times_in_range ts ≡ true → share_in_range w ≡ true → MeanInside ts w
unfolding sums_of ends_of ends_from limit_from share_in_range
mean_inside ts w r h =
    let s = ready (sums_of ts) (times_plausible ts r) sample_form in
    let i = share_inverse w h in
    let o = inverse_above w (range.at_least min_share max_share w h) (range.at_most min_share max_share w h) in
    record {
      low = subst (λ (z : Float). AtMost (low_at ts w) z) (less_none s) (less_order s zero (inverse_of w) zero_in i o);
      high = subst (λ (z : Float). AtMost z (high_at ts w)) (limit_none s) (limit_order s zero (inverse_of w) zero_in i o);
    }
