-- Twice a double's size, rounded down and up, from its pattern; and the roundings of the definitions, from these two. Assumes nothing.
use mathlib.Core.Path.{◌≡◌, refl, sym, ap, ◌∙◌}
use mathlib.Core.Bool.{Bool, true, false, cond}
use Prim.Native.Nat.{ℕ, zero, suc, ◌+◌, ◌-◌, ◌*◌, ◌/◌, ◌%◌, ◌^◌, ◌≤◌, ◌<◌}
use native.Mathlib.Nat.{mul_assoc, div-eq_of_lt, div-le_self, zero-lt-suc, pow-le-pow_right}
use native.Mathlib.Omega.{arith}
use lib.Dec.{leb}
use lib.Pow.{pow_pos}
use lib.Ieee.{Float, binary64, of_bits}
use lib.Ieee.Nearest.{div_same}
use lib.Ieee.Positive.{num, den, den_pos}
use Rattle.std.specs.Prelude.{Some, None}
use Rattle.text_ticks.specs.Ticks.{ceiling, minus_of, up_size, near_size, counted, whole_by}
use Rattle.text_ticks.specs.Halves.{IsHalves}
use Rattle.text_ticks.proofs.Division.{ceiling_is, ceiling_same, floor_ceiling, half_down, half_up, half_near, half_near_up}
use Rattle.text_ticks.proofs.Patterns.{IsFraction, pattern_low, pattern_mid, size_num, size_den}
use Rattle.text_ticks.proofs.Range.{pattern_in, pattern_out}

-- ---- from a fraction

twice_cross : (n d a c : ℕ) → n * c ≡ a * d → 2 * n * c ≡ 2 * a * d
twice_cross n d a c e = mul_assoc 2 n c ∙ ap (λ (m : ℕ). 2 * m) e ∙ sym (mul_assoc 2 a d)

pub fraction_halves : (x : Float) (s : Bool) (a c : ℕ) → IsFraction x s a c → 0 < c → ceiling (2 * a) c < 2 ^ 62
    → IsHalves x (2 * a / c) (ceiling (2 * a) c)
fraction_halves x s a c f h l =
    let cross = twice_cross (num x) (den x) a c f.cross in
    record {
      floor = sym (div_same (2 * num x) (den x) (2 * a) c (den_pos x) h cross);
      ceil = sym (ceiling_same (2 * num x) (den x) (2 * a) c (den_pos x) h cross);
      order = floor_ceiling (2 * a) c h;
      few = l;
    }

-- less than a half, and not zero
tiny : (x : Float) (s : Bool) (a c : ℕ) → IsFraction x s a c → 0 < a → 2 * a < c → IsHalves x 0 1
tiny x s a c f h l =
    let none : 2 * a / c ≡ 0 = div-eq_of_lt l in
    let one : ceiling (2 * a) c ≡ 1 = ceiling_is (2 * a) c 1 (omega arith) (omega arith) (omega arith) in
    rw (← none, ← one) (fraction_halves x s a c f (omega arith) (rw one (omega arith)))

-- ---- from a pattern

under : (a c : ℕ) → a < 2 ^ 53 → 2 ^ 60 ≤ c → 2 * a < c
under a c h k = omega arith

power_of : (k : ℕ) → 60 ≤ k → 2 ^ 60 ≤ 2 ^ k
power_of k h = pow-le-pow_right (zero-lt-suc 1) h

pub halves_small : (b : ℕ) → b < 2 ^ 63 → (b ≡ 0 → ⊥) → b / 2 ^ 52 < 1015 → IsHalves (of_bits binary64 b) 0 1
halves_small b u h l = go (b % 2 ^ 63 / 2 ^ 52) refl
  where
    go : (e : ℕ) → b % 2 ^ 63 / 2 ^ 52 ≡ e → IsHalves (of_bits binary64 b) 0 1
    go zero e =
        tiny (of_bits binary64 b) (leb (2 ^ 63) b) (b % 2 ^ 52) (2 ^ 1074) (pattern_low b e) (omega arith)
        (under (b % 2 ^ 52) (2 ^ 1074) (omega arith) (power_of 1074 (omega arith)))
    go (suc x) e =
        let k : ℕ = 1074 - x in
        let sum : k + x ≡ 1074 = omega arith in
        tiny (of_bits binary64 b) (leb (2 ^ 63) b) (2 ^ 52 + b % 2 ^ 52) (2 ^ k) (pattern_mid b x k e sum) (omega arith)
        (under (2 ^ 52 + b % 2 ^ 52) (2 ^ k) (omega arith) (power_of k (omega arith)))

pub halves_mid : (b unit twice : ℕ) → b < 1076 * 2 ^ 52 → 1015 ≤ b / 2 ^ 52 → unit ≡ 2 ^ (1075 - b / 2 ^ 52) → unit ≤ 2 ^ 60 → 1 ≤ unit
    → twice ≡ (b % 2 ^ 52 + 2 ^ 52) * 2 → IsHalves (of_bits binary64 b) (twice / unit) ((twice + (unit - 1)) / unit)
halves_mid b unit twice u l e h p q =
    let x : ℕ = b / 2 ^ 52 - 1 in
    let k : ℕ = 1075 - b / 2 ^ 52 in
    let field : b % 2 ^ 63 / 2 ^ 52 ≡ suc x = omega arith in
    let sum : k + x ≡ 1074 = omega arith in
    let same : twice ≡ 2 * (2 ^ 52 + b % 2 ^ 52) = omega arith in
    let f = pattern_mid b x k field sum in
    let less = div-le_self (twice + (unit - 1)) unit in
    rw (same, e) (fraction_halves (of_bits binary64 b) (leb (2 ^ 63) b) (2 ^ 52 + b % 2 ^ 52) (2 ^ k) f (pow_pos k) (rw (← e, ← same) (omega arith)))

-- ---- the roundings

pub up_from : (s : Bool) (x : Float) (down up : ℕ) → IsHalves x down up → cond s (down / 2) ((up + 1) / 2) ≡ up_size s (num x) (den x)
unfolding up_size
up_from true x down up h = ap (λ (n : ℕ). n / 2) h.floor ∙ half_down (num x) (den x)
up_from false x down up h = ap (λ (n : ℕ). (n + 1) / 2) h.ceil ∙ half_up (num x) (den x) (den_pos x)

pub near_from : (s : Bool) (x : Float) (down up : ℕ) → IsHalves x down up → cond s (up / 2) ((down + 1) / 2) ≡ near_size s (num x) (den x)
unfolding near_size
near_from true x down up h = ap (λ (n : ℕ). n / 2) h.ceil ∙ half_near_up (num x) (den x)
near_from false x down up h = ap (λ (n : ℕ). (n + 1) / 2) h.floor ∙ half_near (num x) (den x) (den_pos x)

-- the halves of a pattern without its sign are those of the pattern
pub halves_signed : (b down up : ℕ) → IsHalves (of_bits binary64 (b % 2 ^ 63)) down up → IsHalves (of_bits binary64 b) down up
halves_signed b down up h =
    record {
      floor = h.floor ∙ rw (size_num b, size_den b);
      ceil = h.ceil ∙ rw (size_num b, size_den b);
      order = h.order;
      few = h.few;
    }

-- in range the sign is the pattern's first digit
pub pattern_sign : (b : ℕ) → b % 2 ^ 63 < 1076 * 2 ^ 52 → minus_of (of_bits binary64 b) ≡ leb (2 ^ 63) b
pattern_sign b h = go (b % 2 ^ 63 / 2 ^ 52) refl
  where
    go : (e : ℕ) → b % 2 ^ 63 / 2 ^ 52 ≡ e → minus_of (of_bits binary64 b) ≡ leb (2 ^ 63) b
    go zero e = (pattern_low b e).sign
    go (suc x) e = let k : ℕ = 1074 - x in let sum : k + x ≡ 1074 = omega arith in (pattern_mid b x k e sum).sign

-- ---- the answers

pub whole_by_lem : (size : Bool → ℕ → ℕ → ℕ) (b n : ℕ) (s : Bool) → b % 2 ^ 63 < 1076 * 2 ^ 52 → s ≡ leb (2 ^ 63) b
    → n ≡ size s (num (of_bits binary64 b)) (den (of_bits binary64 b)) → Some (counted s n) ≡ whole_by size (of_bits binary64 b)
unfolding whole_by
whole_by_lem size b n s h e f = rw (pattern_in b h, pattern_sign b h, ← e, f)

pub declined_by : (size : Bool → ℕ → ℕ → ℕ) (b : ℕ) → 1076 * 2 ^ 52 ≤ b % 2 ^ 63 → None ≡ whole_by size (of_bits binary64 b)
unfolding whole_by
declined_by size b h = rw (pattern_out b h)
