-- The inverse error function (document 02, 2026-11): at -x it is that at x with the other sign, of every x; and its answers at ±0, ±1, beyond
-- and at NaN, computed. Assumes nothing.
use Rattle.std.proofs.Common.{◌≡◌, ℕ, ◌+◌, ◌*◌, ◌≤◌, Bool, true, false, cond, not, ◌&&◌, ◌||◌, eqb, sym, refl, ◌∙◌, true≢false, lt_of_not-le, zero-mul, arith, le-ltb, lt-ltb, eq-eqb, eqb-true}
use mathlib.Core.Bool.{beq}
use lib.Ieee.{Float, nan, inf, fin, up, down, is_nan, of_bits, to_bits, below, level, neg, eq, lt}
use Rattle.pxfm.specs.DoubleDouble.{one, new_of, to_f64}
use Rattle.pxfm.specs.Argument.{zero}
use Rattle.pxfm.specs.Inverfc.{erf_core}
use Rattle.pxfm.specs.Inverf.{with_sign, beyond_one, f_erfinv, f_erfinv_bits}

-- ---- ±a beside 0

and_implied : (c d : Bool) → (c ≡ true → d ≡ true) → c && d ≡ c
and_implied true d h = h refl
and_implied false d h = refl

or_true : (a b : Bool) → b ≡ true → a || b ≡ true
or_true true b h = refl
or_true false b h = h

level_zero : (s : Bool) (a b : ℕ) → b ≡ 0 → level s a false b ≡ eqb a b
level_zero s a b z = and_implied (eqb a b) _ (λ h. or_true (beq s false) (eqb a 0) (eq-eqb a 0 (eqb-true a b h ∙ z)))

below_other : (s : Bool) (a b : ℕ) → b ≡ 0 → (a ≡ 0 → ⊥) → below (not s) a false b ≡ not (below s a false b)
below_other true a b z n = rw (lt-ltb 0 (a + b) (lt_of_not-le (λ (l : a + b ≤ 0). n (omega arith))), le-ltb a b (omega arith))
below_other false a b z n = rw (lt-ltb 0 (a + b) (lt_of_not-le (λ (l : a + b ≤ 0). n (omega arith))), le-ltb a b (omega arith))

-- ---- the other sign

sign_other : (l : Bool) (y : Float) → with_sign (not l) y ≡ neg (with_sign l y)
unfolding with_sign neg
sign_other l nan = refl
sign_other l (inf t) = refl
sign_other l (fin t m e) = refl

-- what is answered of a size for a sign, by the tests on it
answer_other : (p q l : Bool) (y : Float)
    → cond p (inf (not l)) (cond q nan (with_sign (not l) y)) ≡ neg (cond p (inf l) (cond q nan (with_sign l y)))
unfolding neg
answer_other true q l y = refl
answer_other false true l y = refl
answer_other false false l y = sign_other l y

-- the same with the test for ±0 before it; the sign is looked at where that fails
answer_mirrored : (z w p q l k : Bool) (x v y : Float) → w ≡ z → v ≡ neg x → (z ≡ false → k ≡ not l)
    → cond w v (cond p (inf k) (cond q nan (with_sign k y))) ≡ neg (cond z x (cond p (inf l) (cond q nan (with_sign l y))))
answer_mirrored true w p q l k x v y e f h = rw (e, f)
answer_mirrored false w p q l k x v y e f h = rw (e, h refl) (answer_other p q l y)

pub odd_answer : (x : Float) → f_erfinv (neg x) ≡ neg (f_erfinv x)
unfolding f_erfinv with_sign eq lt is_nan of_bits neg
odd_answer nan = refl
odd_answer (inf true) = refl
odd_answer (inf false) = refl
odd_answer (fin s m e) =
    let same = level_zero (not s) (m * up e * 1) (0 * down e) none ∙ sym (level_zero s (m * up e * 1) (0 * down e) none) in
    let a = fin false m e in
    answer_mirrored _ _ (eq a one) (beyond_one a) (lt (fin s m e) zero) _ _ _ (to_f64 (erf_core (new_of zero a))) same refl
    (λ h. below_other s _ _ none (not_zero h))
  where
    none : 0 * down e ≡ 0
    none = zero-mul (down e)

    not_zero : level s (m * up e * 1) false (0 * down e) ≡ false → m * up e * 1 ≡ 0 → ⊥
    not_zero h k = true≢false (sym (level_zero s _ _ none ∙ eq-eqb _ _ (k ∙ sym none)) ∙ h)

-- ---- the answers that need no branch

pub record ErfinvCases : Type 0 where
  pub at_zero : f_erfinv_bits 0 ≡ 0
  pub at_minus_zero : f_erfinv_bits 0x8000_0000_0000_0000 ≡ 0x8000_0000_0000_0000
  pub at_one : f_erfinv_bits 0x3ff0_0000_0000_0000 ≡ 0x7ff0_0000_0000_0000
  pub at_minus_one : f_erfinv_bits 0xbff0_0000_0000_0000 ≡ 0xfff0_0000_0000_0000
  pub above_one : f_erfinv_bits 0x3ff0_0000_0000_0001 ≡ 0x7ff8_0000_0000_0000
  pub below_minus_one : f_erfinv_bits 0xbff0_0000_0000_0001 ≡ 0x7ff8_0000_0000_0000
  pub at_infinity : f_erfinv_bits 0x7ff0_0000_0000_0000 ≡ 0x7ff8_0000_0000_0000
  pub at_nan : f_erfinv_bits 0xfff8_0000_0000_0001 ≡ 0x7ff8_0000_0000_0000

pub erfinv_cases : ErfinvCases
unfolding f_erfinv with_sign eq lt is_nan of_bits to_bits
erfinv_cases =
    record {
      at_zero = refl;
      at_minus_zero = refl;
      at_one = refl;
      at_minus_one = refl;
      above_one = refl;
      below_minus_one = refl;
      at_infinity = refl;
      at_nan = refl;
    }
