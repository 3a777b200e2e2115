-- The square root of an interval that is not below zero. Assumes nothing.
use mathlib.Core.Path.{◌≡◌, refl, sym, ap, ◌∙◌, subst}
use mathlib.Core.Bool.{Bool, true, false, ◌&&◌, cond}
use Prim.Native.Nat.{ℕ, zero, suc, ◌+◌, ◌-◌, ◌*◌, ◌^◌, ◌≤◌, ◌<◌}
use native.Mathlib.Nat.{le_trans, lt_irrefl, zero-mul, mul-pos, mul-le-mul_right, eq_of_mul-eq-mul_right}
use native.Mathlib.Omega.{arith}
use lib.Dec.{leb, eqb, lit<, leb→le}
use lib.Pow.{pow_pos}
use lib.IntN.{ℤ}
use lib.Ieee.{Float, nan, inf, fin, binary64, up, down}
use lib.Ieee.Fits.{up_pos, down_pos, and_l, and_r}
use Rattle.sqrt.specs.Sqrt.{isqrt, round_root, round_sqrt, sqrt_in, sqrt_of}
use Rattle.sqrt.proofs.Squares.{isqrt_is, root_le}
use Rattle.sqrt.proofs.Scaling.{radicand_of}
use Rattle.law_bounds.specs.Interval.{Interval, Holds, Inside, In, ranged}
use Rattle.law_bounds.proofs.Arithmetic.{limit, raised, lowered, least, most}
use Rattle.law_bounds.proofs.Rounding.{Rounded, rounded, at_most, at_least}
use Rattle.law_bounds.proofs.Operations.{least_le, le_most, ranged_holds}
use Rattle.law_bounds.proofs.Estimate.{Est}

pub isqrt_mono : (m n : ℕ) → m ≤ n → isqrt m ≤ isqrt n
isqrt_mono m n h = root_le (isqrt m) (isqrt n) n (le_trans (isqrt_is m).low h) (isqrt_is n).high

abbrev hi_of : Interval → ℕ
hi_of a = isqrt (most a * 2 ^ 1074) + 1

abbrev lo_of : Interval → ℕ
lo_of a = isqrt (least a * 2 ^ 1074)

abbrev root_ok : Interval → Bool
root_ok a = a.ok && leb a.ln a.lp && leb (hi_of a) limit

unfoldable pub root_b : Interval → Interval
unfolding raised lowered isqrt
root_b a = ranged (root_ok a) (lowered (lo_of a)) (raised (hi_of a))

bit_le : (c : Bool) → cond c 0 1 ≤ 1
bit_le true = omega arith
bit_le false = omega arith

-- the root is s, or between it and s + 1: a fraction with the divisor 2
pub record RoundedRoot (n : ℕ) : Type 0 where
  pub c : ℕ
  pub small : c ≤ 1
  pub near : Rounded (round_sqrt binary64 n) false (2 * isqrt n + c) 2

pub rounded_root : (n h : ℕ) → isqrt n ≤ h → h + 1 ≤ limit → RoundedRoot n
unfolding round_sqrt round_root
rounded_root n h b l =
    let s = isqrt n in
    let c : ℕ = cond (eqb (n - s * s) 0) 0 1 in
    let d = bit_le (eqb (n - s * s) 0) in
    let u = units (2 * s + c) (2 ^ 1074) in
    let r = rounded false ((2 * s + c) * 2 ^ 0) (2 * 2 ^ 1074) (2 * s + c) 2 (pow_pos 1075) (lit< tt) u (fits s c h limit b d l) in
    record { c = c; small = d; near = r }
  where
    units : (k l : ℕ) → k * 2 ^ 0 * l * 2 ≡ k * (2 * l)
    units k l = omega arith

    fits : (s c j l : ℕ) → s ≤ j → c ≤ 1 → j + 1 ≤ l → 2 * s + c ≤ l * 2
    fits s c j l a d h = omega arith

round_root_lem : (o : Bool) (n i j : ℕ) → isqrt i ≤ isqrt n → isqrt n ≤ isqrt j → isqrt j + 1 ≤ limit
    → Inside (round_sqrt binary64 n) (ranged o (lowered (isqrt i)) (raised (isqrt j + 1)))
round_root_lem o n i j a b l =
    let z = rounded_root n (isqrt j) b l in
    let r = z.near in
    record {
      s = false;
      m = r.m;
      val = r.val;
      holds = ranged_holds o _ _ r.m (at_least r (lit< tt) (isqrt i) (omega arith)) (at_most r (lit< tt) (isqrt j + 1) (omega (arith, z.small)));
    }

-- a number of no units is zero, and a zero has none
pub none : (k u d m l : ℕ) → 0 < d → k * u * l ≡ m * d → k ≡ 0 → m ≡ 0
none k u d m l D e z =
    eq_of_mul-eq-mul_right d D m 0 (sym e ∙ ap (λ (x : ℕ). x * u * l) z ∙ ap (λ (x : ℕ). x * l) (zero-mul u) ∙ zero-mul l ∙ sym (zero-mul d))

pub some : (k u d m l : ℕ) → 0 < u → 0 < l → suc k * u * l ≡ m * d → m ≡ 0 → ⊥
some k u d m l U L e z =
    lt_irrefl 0 (subst (λ (x : ℕ). 0 < x) (e ∙ ap (λ (x : ℕ). x * d) z ∙ zero-mul d) (mul-pos (mul-pos {m = suc k} (omega arith) U) L))

root_least : lowered (isqrt (0 * 2 ^ 1074)) ≤ 0
unfolding lowered isqrt
root_least = omega arith

module _ (a : Interval) (o : Bool) (p : a.ln ≤ a.lp) (l : hi_of a ≤ limit) where
  abbrev result : Interval
  result = ranged o (lowered (lo_of a)) (raised (hi_of a))

  minus_none : (m : ℕ) → Holds a true m → m ≡ 0
  minus_none m h = omega (arith, h.low)

  root_zero : (s : Bool) (e : ℤ) → least a ≤ 0 → Inside (fin s zero e) result
  root_zero s e z =
      let f : least a ≡ 0 = omega arith in
      record {
        s = s;
        m = 0;
        val = (refl, ap (λ (x : ℕ). x * 2 ^ 1074) (zero-mul (up e)) ∙ zero-mul (2 ^ 1074) ∙ sym (zero-mul (down e)));
        holds = nothing s (rw f root_least);
      }
    where
      nothing : (s : Bool) {l h : ℕ} → l ≤ 0 → Holds (ranged o l h) s 0
      nothing false i = record { low = omega arith; high = omega arith }
      nothing true i = record { low = omega arith; high = omega arith }

  root_inside : (x : Float) → Inside x a → Inside (sqrt_of x) result
  unfolding sqrt_in
  root_inside nan v = absurd v.val
  root_inside (inf t) v = absurd v.val
  root_inside (fin t zero e) v =
      root_zero t e (subst (λ (m : ℕ). least a ≤ m) (none 0 (up e) (down e) v.m (2 ^ 1074) (down_pos e) v.val.1 refl) (least_le v))
  root_inside (fin true (suc k) e) v =
      absurd (some k (up e) (down e) v.m (2 ^ 1074) (up_pos e) (pow_pos 1074) v.val.1 (minus_none v.m (rw v.val.0 v.holds)))
  root_inside (fin false (suc k) e) v =
      rw (radicand_of binary64 (fin false (suc k) e) v.m (refl, v.val.1))
      (round_root_lem o (v.m * 2 ^ 1074) (least a * 2 ^ 1074) (most a * 2 ^ 1074)
      (isqrt_mono _ _ (mul-le-mul_right (2 ^ 1074) (least_le v))) (isqrt_mono _ _ (mul-le-mul_right (2 ^ 1074) (le_most v))) l)

pub root_in : {x : Float} {a : Interval} → In x a → In (sqrt_of x) (root_b a)
unfolding root_b
root_in {x = x} {a = a} h =
    record {
      at = λ t.
          let t2 = and_l (a.ok && leb a.ln a.lp) _ t in
          let p = leb→le _ _ (and_r a.ok _ t2) in
          let l = leb→le _ _ (and_r (a.ok && leb a.ln a.lp) _ t) in
          root_inside a (root_ok a) p l x (h.at (and_l a.ok _ t2));
    }

unfoldable pub root_e : {x : Float} → Est x → Est (sqrt_of x)
unfolding root_b
root_e p = record { bound = root_b p.bound; holds = root_in p.holds }
