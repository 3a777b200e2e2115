-- What a pattern stands for, by its fields: with the exponent's field e and the digits t it is t units where e is 0, and else (2 ^ 52 + t) * 2 ^ (e - 1)
-- units. Assumes nothing.
use mathlib.Core.Path.{◌≡◌, refl, sym, ap, ◌∙◌, subst}
use mathlib.Core.Bool.{Bool, false, cond}
use Prim.Native.Nat.{ℕ, suc, ◌+◌, ◌-◌, ◌*◌, ◌/◌, ◌%◌, ◌^◌, ◌<◌}
use native.Mathlib.Nat.{lt_irrefl, mul-one}
use native.Mathlib.Omega.{arith}
use borrow.Author.Tests.{lt-leb, ne_eqb}
use lib.Dec.{eqb}
use lib.Ieee.{Float, nan, inf, binary64, odd, of_fields, of_bits}
use lib.Ieee.Exact.{HasValue, odd_sign}

fields : (b e t : ℕ) → b < 2 ^ 63 → b / 2 ^ 52 ≡ e → b % 2 ^ 52 ≡ t → of_bits binary64 b ≡ of_fields binary64 false e t
unfolding of_bits
fields b e t h E Q =
    let m : b % 2 ^ 63 ≡ b = omega arith in
    ap (λ (s : Bool). of_fields binary64 s (b % 2 ^ 63 / 2 ^ 52) (b % 2 ^ 52)) (lt-leb (2 ^ 63) b h)
    ∙ ap (λ (x : ℕ). of_fields binary64 false (x / 2 ^ 52) (b % 2 ^ 52)) m
    ∙ ap (λ (x : ℕ). of_fields binary64 false x (b % 2 ^ 52)) E
    ∙ ap (λ (x : ℕ). of_fields binary64 false e x) Q

value_low : (t : ℕ) → HasValue (of_fields binary64 false 0 t) false (t * 2 ^ 0) (2 ^ 1074)
unfolding of_fields
value_low t = odd_sign 53 false t 0 1074

value_mid : (x t : ℕ) → suc x < 2047 → HasValue (of_fields binary64 false (suc x) t) false ((2 ^ 52 + t) * 2 ^ x) (2 ^ 1074)
unfolding of_fields
value_mid x t h = go (eqb (suc x) 2047) (ne_eqb (suc x) 2047 (λ (e : suc x ≡ 2047). lt_irrefl 2047 (subst (λ (y : ℕ). y < 2047) e h)))
  where
    go : (b : Bool) → b ≡ false
        → HasValue (cond b (cond (eqb t 0) (inf false) nan) (odd 53 false (2 ^ 52 + t) x 1074)) false ((2 ^ 52 + t) * 2 ^ x) (2 ^ 1074)
    go b e =
        subst (λ (c : Bool). HasValue (cond c (cond (eqb t 0) (inf false) nan) (odd 53 false (2 ^ 52 + t) x 1074)) false ((2 ^ 52 + t) * 2 ^ x) (2 ^ 1074))
        (sym e) (odd_sign 53 false (2 ^ 52 + t) x 1074)

-- a pattern below 2 ^ 52
pub pattern_low : (b : ℕ) → b / 2 ^ 52 ≡ 0 → HasValue (of_bits binary64 b) false (b % 2 ^ 52) (2 ^ 1074)
pattern_low b E =
    let t = b % 2 ^ 52 in
    subst (λ (x : Float). HasValue x false t (2 ^ 1074)) (sym (fields b 0 t (omega arith) E refl))
    (subst (λ (a : ℕ). HasValue (of_fields binary64 false 0 t) false a (2 ^ 1074)) (mul-one t) (value_low t))

-- from there up to the infinity's
pub pattern_mid : (b : ℕ) → b < 2047 * 2 ^ 52 → (b / 2 ^ 52 ≡ 0 → ⊥)
    → HasValue (of_bits binary64 b) false ((b % 2 ^ 52 + 2 ^ 52) * 2 ^ (b / 2 ^ 52 - 1)) (2 ^ 1074)
pattern_mid b B E =
    let x = b / 2 ^ 52 - 1 in
    let t = b % 2 ^ 52 in
    let k : b / 2 ^ 52 ≡ suc x = omega arith in
    let w : 2 ^ 52 + t ≡ t + 2 ^ 52 = omega arith in
    subst (λ (y : Float). HasValue y false ((t + 2 ^ 52) * 2 ^ x) (2 ^ 1074)) (sym (fields b (suc x) t (omega arith) k refl))
    (subst (λ (a : ℕ). HasValue (of_fields binary64 false (suc x) t) false (a * 2 ^ x) (2 ^ 1074)) w (value_mid x t (omega arith)))
