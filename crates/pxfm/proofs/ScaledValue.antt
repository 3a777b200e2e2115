-- The significand and the exponent of a positive finite double are those of its value: it is m / 2 ^ 52 × 2 ^ (e - 1074).
-- A pattern stands for its digits in units of 2 ^ -1074, times a power of two that the exponent's field gives; a subnormal's digits
-- are shifted up by as much as its exponent is lowered. Assumes nothing.
use Rattle.std.proofs.Common.{◌≡◌, ℕ, ◌+◌, ◌-◌, ◌*◌, ◌/◌, ◌%◌, ◌^◌, ◌<◌, ◌≤◌, Bool, true, false, cond, T, eqb, sym, refl, ap, ◌∙◌, subst, mul_assoc, arith, pow_pos, pow-add, eqb-true}
use borrow.Author.Tests.{eqb-false}
use lib.Ieee.{Float, binary64, fits, of_bits, to_bits}
use lib.Ieee.Bits.{of_bits-to_bits}
use lib.Ieee.Exact.{HasValue}
use lib.Ieee.Positive.{num, den, value→cross}
use Rattle.double_bits.proofs.Digits.{add_exponents}
use Rattle.double_bits.proofs.Fields.{pattern_low, pattern_mid}
use Rattle.pxfm.specs.declared.logs.fast_log_dd.Scaled.{Scaled}
use Rattle.pxfm.specs.FastLogDd.{scaled, shift_of, scaled_of}
use Rattle.pxfm.proofs.Exact.{value_same}
use Rattle.pxfm.proofs.Shift.{shifted}

-- The number m / 2 ^ 52 × 2 ^ (e - 1074), as the fraction m * 2 ^ e / 2 ^ 1126.
abbrev Stands : Float → Scaled → Type 0
Stands x s = HasValue x false (s.m * 2 ^ s.e) (2 ^ 1126)

-- A subnormal.
stands_low : (b : ℕ) → 0 < b → b / 2 ^ 52 ≡ 0 → Stands (of_bits binary64 b) (scaled (b * 2 ^ shift_of b) (52 - shift_of b))
stands_low b p E =
    let k = shift_of b in
    let s = shifted 64 52 b (omega arith) p (omega arith) in
    let t : b % 2 ^ 52 ≡ b = omega arith in
    let i : k ≤ 52 = let n = s.most in omega arith in
    let j : k + (52 - k) ≡ 52 = omega arith in
    let v = subst (λ (n : ℕ). HasValue (of_bits binary64 b) false n (2 ^ 1074)) t (pattern_low b E) in
    let e : b * 2 ^ k * 2 ^ (52 - k) ≡ b * 2 ^ 52 =
    mul_assoc b (2 ^ k) (2 ^ (52 - k)) ∙ ap (λ (n : ℕ). b * n) (sym (pow-add 2 k (52 - k)) ∙ ap (λ (n : ℕ). 2 ^ n) j) in
    value_same (of_bits binary64 b) false b (2 ^ 1074) (b * 2 ^ k * 2 ^ (52 - k)) (2 ^ 1126) (pow_pos 1074)
    (ap (λ (n : ℕ). n * 2 ^ 1074) e ∙ mul_assoc b (2 ^ 52) (2 ^ 1074) ∙ ap (λ (n : ℕ). b * n) (sym (pow-add 2 52 1074))) v

-- A double with a leading digit.
stands_mid : (b : ℕ) → b < 0x7ff0_0000_0000_0000 → (b / 2 ^ 52 ≡ 0 → ⊥)
    → Stands (of_bits binary64 b) (scaled (b % 2 ^ 52 + 2 ^ 52) (b / 2 ^ 52 + 51))
stands_mid b h E =
    let m = b % 2 ^ 52 + 2 ^ 52 in
    let x = b / 2 ^ 52 in
    value_same (of_bits binary64 b) false (m * 2 ^ (x - 1)) (2 ^ 1074) (m * 2 ^ (x + 51)) (2 ^ 1126) (pow_pos 1074)
    (add_exponents m (x + 51) 1074 (x - 1) 1126 (omega arith)) (pattern_mid b (omega arith) E)

pattern_scaled : (b : ℕ) → 0 < b → b < 0x7ff0_0000_0000_0000 → Stands (of_bits binary64 b) (scaled_of b)
unfolding scaled_of
pattern_scaled b p h = go (eqb (b / 2 ^ 52) 0) (eqb-true (b / 2 ^ 52) 0) (eqb-false (b / 2 ^ 52) 0)
  where
    go : (t : Bool) → (t ≡ true → b / 2 ^ 52 ≡ 0) → (t ≡ false → b / 2 ^ 52 ≡ 0 → ⊥)
        → Stands (of_bits binary64 b)
        (cond t (scaled (b * 2 ^ shift_of b) (52 - shift_of b)) (scaled (b % 2 ^ 52 + 2 ^ 52) (b / 2 ^ 52 + 51)))
    go true y n = stands_low b p (y refl)
    go false y n = stands_mid b h (n refl)

-- The gloss of `scaled_of`, for every positive finite double.
pub scaled_value : (x : Float) → T (fits binary64 x) → 0 < to_bits binary64 x → to_bits binary64 x < 0x7ff0_0000_0000_0000
    → let s = scaled_of (to_bits binary64 x) in HasValue x false (s.m * 2 ^ s.e) (2 ^ 1126)
scaled_value x f p h =
    let b = to_bits binary64 x in
    subst (λ (y : Float). Stands y (scaled_of b)) (of_bits-to_bits binary64 x f) (pattern_scaled b p h)

-- The same in whole numbers.
pub scaled_cross : (x : Float) → T (fits binary64 x) → 0 < to_bits binary64 x → to_bits binary64 x < 0x7ff0_0000_0000_0000
    → let s = scaled_of (to_bits binary64 x) in num x * 2 ^ 1126 ≡ s.m * 2 ^ s.e * den x
scaled_cross x f p h =
    let s = scaled_of (to_bits binary64 x) in
    value→cross x (s.m * 2 ^ s.e) (2 ^ 1126) (scaled_value x f p h)
