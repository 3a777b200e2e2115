-- The sum of a number from 1 / 2 on and any other is a whole number of 2 ^ -60. Where the other is below 2 ^ -8 in size the sum is above it.
-- Elsewhere both are such numbers: what their sum is rounded to is the sum itself, or at least 2 ^ -8. Assumes nothing.
use mathlib.Core.Path.{◌≡◌, sym, ◌∙◌, subst}
use mathlib.Core.Bool.{Bool, true, false}
use Prim.Native.Nat.{ℕ, ◌+◌, ◌*◌, ◌^◌, ◌≤◌}
use native.Mathlib.Nat.{le_of_lt, le_trans, mul-le-mul_right, mul-one}
use native.Mathlib.Omega.{arith}
use lib.Dec.{T, leb, lit<, leb→le}
use lib.Pow.{pow_pos}
use lib.Ieee.{Float, binary64, fits, add}
use lib.Ieee.Exact.{HasValue}
use lib.Ieee.Fits.{add-fits}
use Rattle.facts.proofs.Orders.{by_order}
use Rattle.pxfm.proofs.Units.{units_multiple}
use Rattle.pxfm.proofs.Value.{Gap, Val, add_rounds}
use Rattle.pxfm.proofs.Exact.{round_few}
use Rattle.law_bounds.specs.Interval.{Interval, P, N, Holds, Inside, In, between, about}
use Rattle.law_bounds.proofs.Arithmetic.{limit, lowered}
use Rattle.law_bounds.proofs.Rounding.{rounded, at_least}
use Rattle.law_bounds.proofs.Operations.{widen, counted, le_most}
use Rattle.law_bounds.proofs.Estimate.{given, sum_e}
use Rattle.law_finite.proofs.Formula.{mean_b}
use Rattle.law_shown.proofs.Multiples.{Multiple, multiple}

-- ---- a sum of two such numbers

as_val : {x : Float} (s : Bool) (q : ℕ) → HasValue x s (q * 2 ^ 1014) (2 ^ 1074) → Val binary64 x (P s q) (N s q) 1014
as_val s q v = record { sign = s; mag = q; val = v; gap = gap s }
  where
    gap : (s : Bool) → Gap s q (P s q) (N s q)
    gap false = omega arith
    gap true = omega arith

gap_le : (u s t : Bool) (k q r : ℕ) → Gap u k (P s q + P t r) (N s q + N t r) → k ≤ q + r
gap_le false false false k q r g = omega arith
gap_le false false true k q r g = omega arith
gap_le false true false k q r g = omega arith
gap_le false true true k q r g = omega arith
gap_le true false false k q r g = omega arith
gap_le true false true k q r g = omega arith
gap_le true true false k q r g = omega arith
gap_le true true true k q r g = omega arith

far : T (leb (2 ^ 1066) (lowered (2 ^ 1067)))
unfolding lowered
far = tt

sum_multiple : (x y : Float) (X : Multiple x) (Y : Multiple y) → (X.q + Y.q) * 2 ^ 1014 ≤ limit → Multiple (add binary64 x y)
sum_multiple x y X Y h =
    let r = add_rounds (as_val X.s X.q X.val) (as_val Y.s Y.q Y.val) in
    let top = le_trans (mul-le-mul_right (2 ^ 1014) (gap_le r.sign X.s Y.s r.mag X.q Y.q r.gap)) h in
    by_order (2 ^ 53) r.mag
    (λ g.
    let z = rounded r.sign r.num r.den (r.mag * 2 ^ 1014) 1 r.den_pos (lit< tt) (mul-one (r.num * 2 ^ 1074) ∙ r.val) (once _ limit top) in
    let l = le_trans (leb→le _ _ far) (at_least z (lit< tt) (2 ^ 1067) (whole _ (mul-le-mul_right (2 ^ 1014) g))) in
    multiple (add binary64 x y) r.sign z.m (add-fits binary64 x y)
    (subst (λ (w : Float). HasValue w r.sign z.m (2 ^ 1074)) (sym r.is) z.val) l)
    (λ g.
    record {
      s = r.sign;
      q = r.mag;
      val =
          subst (λ (w : Float). HasValue w r.sign (r.mag * 2 ^ 1014) (2 ^ 1074)) (sym r.is)
          (round_few binary64 r.sign r.num r.den r.mag 1014 r.den_pos r.val g (omega arith));
    })
  where
    once : (a l : ℕ) → a ≤ l → a ≤ l * 1
    once a l i = omega arith

    whole : (a : ℕ) {b : ℕ} → b ≤ a → b * 1 ≤ a
    whole a i = omega arith

-- ---- a number from 1 / 2 to 2 ^ 20, and one of at most 2 ^ 23 in size

abbrev pub share_b : Interval
share_b = about true (2 ^ 23 * 2 ^ 1074)

module _ (x y : Float) (f : T (fits binary64 x)) (g : T (fits binary64 y)) (h : In x mean_b) (k : In y share_b) where
  -- the other is below 2 ^ -8
  small_other : In y (about true (2 ^ 1066)) → Multiple (add binary64 x y)
  unfolding sum_e
  small_other i =
      let z = widen (between (2 ^ 1072) (2 ^ 1095)) tt (sum_e (given h) (given i)).holds in
      let v = counted (2 ^ 1072) (2 ^ 1095) (pow_pos 1072) z in
      multiple (add binary64 x y) false v.n (add-fits binary64 x y) v.val (le_trans (leb→le _ _ tt) v.low)

  sum_shown : Inside y share_b → Multiple (add binary64 x y)
  sum_shown w =
      by_order (2 ^ 1066) w.m
      (λ i.
      let v = counted (2 ^ 1073) (2 ^ 20 * 2 ^ 1074) (pow_pos 1073) h in
      let X = units_multiple 1014 x false v.n f v.val (le_trans (leb→le _ _ tt) v.low) in
      let Y = units_multiple 1014 y w.s w.m g w.val i in
      sum_multiple x y
      (record { s = false; q = X.0; val = subst (λ (n : ℕ). HasValue x false n (2 ^ 1074)) X.1 v.val })
      (record { s = w.s; q = Y.0; val = subst (λ (n : ℕ). HasValue y w.s n (2 ^ 1074)) Y.1 w.val })
      (fit X.0 Y.0 (2 ^ 1014) v.n w.m (2 ^ 1094) (2 ^ 1097) limit X.1 Y.1 v.high (le_most w) (leb→le _ _ tt)))
      (λ i. small_other (record { at = λ t. record { s = w.s; m = w.m; val = w.val; holds = sized w.s w.m (2 ^ 1066) (le_of_lt i) } }))
    where
      fit : (p q l a b c d t : ℕ) → a ≡ p * l → b ≡ q * l → a ≤ c → b ≤ d → c + d ≤ t → (p + q) * l ≤ t
      fit p q l a b c d t e e' i j o = omega arith

      sized : (s : Bool) (m h : ℕ) → m ≤ h → Holds (about true h) s m
      sized false m h i = record { low = omega arith; high = omega arith }
      sized true m h i = record { low = omega arith; high = omega arith }

  pub mean_sum : Multiple (add binary64 x y)
  mean_sum = sum_shown (k.at tt)
