-- A whole number from l to h, made a double. Assumes nothing.
use mathlib.Core.Path.{refl}
use mathlib.Core.Bool.{false}
use Prim.Native.Nat.{ℕ, ◌*◌, ◌^◌, ◌≤◌}
use native.Mathlib.Nat.{mul-le-mul_right}
use native.Mathlib.Omega.{arith}
use lib.Dec.{T, leb, leb→le, lit<}
use lib.IntN.{pos}
use lib.Ieee.{binary64, of_int}
use Rattle.law_bounds.specs.Interval.{In, between}
use Rattle.law_bounds.proofs.Arithmetic.{limit, raised, lowered}
use Rattle.law_bounds.proofs.Rounding.{rounded, at_most, at_least}
use Rattle.law_bounds.proofs.Operations.{counted_in}
use Rattle.law_bounds.proofs.Estimate.{Est}

pub whole_in : (c l h : ℕ) → l ≤ c → c ≤ h → T (leb (h * 2 ^ 1074) limit)
    → In (of_int binary64 (pos c)) (between (lowered (l * 2 ^ 1074)) (raised (h * 2 ^ 1074)))
unfolding of_int
whole_in c l h a b t =
    let u = 2 ^ 1074 in
    let top = once (c * u) limit (through (c * u) (h * u) limit (mul-le-mul_right u b) (leb→le _ _ t)) in
    let r = rounded false c 1 (c * u) 1 (lit< tt) (lit< tt) refl top.0 in
    counted_in (lowered (l * u)) (raised (h * u)) r.m r.val
    (at_least r (lit< tt) (l * u) (once (l * u) (c * u) (mul-le-mul_right u a)).1)
    (at_most r (lit< tt) (h * u) (once (c * u) (h * u) (mul-le-mul_right u b)).0)
  where
    once : (x y : ℕ) → x ≤ y → (x ≤ y * 1) × (x * 1 ≤ y)
    once x y q = omega arith

    through : (x y z : ℕ) → x ≤ y → y ≤ z → x ≤ z
    through x y z p q = omega arith

unfoldable pub whole_e : (c l h : ℕ) → l ≤ c → c ≤ h → T (leb (h * 2 ^ 1074) limit) → Est (of_int binary64 (pos c))
unfolding lowered raised
whole_e c l h a b t = record { bound = between (lowered (l * 2 ^ 1074)) (raised (h * 2 ^ 1074)); holds = whole_in c l h a b t }
