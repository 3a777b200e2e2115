-- Which patterns are in range: those whose exponent's field is below 1076, which are the doubles below 2 ^ 53 in size. Assumes nothing.
use mathlib.Core.Path.{◌≡◌, refl}
use mathlib.Core.Bool.{Bool, true, false, ◌&&◌, cond}
use Prim.Native.Nat.{ℕ, zero, suc, ◌+◌, ◌-◌, ◌*◌, ◌/◌, ◌%◌, ◌^◌, ◌≤◌, ◌<◌}
use native.Mathlib.Nat.{mul_right_comm, mul-le-mul_right, mul-lt-mul_of_pos_right, le_of_mul-le-mul_right, pow-le-pow_right, pow-suc, zero-lt-suc}
use native.Mathlib.Nat.{lt_of_mul-lt-mul_right, lt_of_not-le}
use native.Mathlib.Decide.{dec_le}
use native.Mathlib.Omega.{arith}
use borrow.Author.Tests.{lt-ltb, le-ltb}
use lib.Dec.{eqb, leb, ltb}
use lib.Pow.{pow_pos}
use lib.Ieee.{Float, nan, inf, binary64, of_fields, of_bits}
use lib.Ieee.Positive.{num, den, den_pos}
use lib.Ieee.Scale.{finite}
use Rattle.text_ticks.specs.Ticks.{in_range}
use Rattle.text_ticks.proofs.Patterns.{IsFraction, bits_fields, pattern_low, pattern_mid, pattern_high}

-- ---- a fraction below a whole number, or not

below : (n d a c w : ℕ) → 0 < d → n * c ≡ a * d → a < w * c → n < w * d
below n d a c w h e l =
    let more = mul-lt-mul_of_pos_right l h in
    let swap : w * c * d ≡ w * d * c = mul_right_comm w c d in
    let less : n * c < w * d * c = omega arith in
    lt_of_mul-lt-mul_right c less

above : (n d a c w : ℕ) → 0 < c → n * c ≡ a * d → w * c ≤ a → w * d ≤ n
above n d a c w h e l =
    let more = mul-le-mul_right d l in
    let swap : w * c * d ≡ w * d * c = mul_right_comm w c d in
    let less : w * d * c ≤ n * c = omega arith in
    le_of_mul-le-mul_right less h

pub fraction_in : (x : Float) (s : Bool) (a c : ℕ) → IsFraction x s a c → a < 2 ^ 53 * c → in_range x ≡ true
unfolding in_range
fraction_in x s a c f l =
    rw (f.is_finite, lt-ltb (num x) (2 ^ 53 * den x) (below (num x) (den x) a c (2 ^ 53) (den_pos x) f.cross l))

pub fraction_out : (x : Float) (s : Bool) (a c : ℕ) → IsFraction x s a c → 0 < c → 2 ^ 53 * c ≤ a → in_range x ≡ false
unfolding in_range
fraction_out x s a c f h l =
    rw (f.is_finite, le-ltb (num x) (2 ^ 53 * den x) (above (num x) (den x) a c (2 ^ 53) h f.cross l))

-- ---- the patterns

few : (t c : ℕ) → t < 2 ^ 53 → 0 < c → t < 2 ^ 53 * c
few t c h k = omega arith

many : (t p q : ℕ) → p * 2 ≤ q → 2 ^ 53 * p ≤ (2 ^ 52 + t) * q
many t p q h =
    let more = mul-le-mul_right {m = 2 ^ 52} {n = 2 ^ 52 + t} q (omega arith) in
    omega arith

doubled : (x : ℕ) → 1075 ≤ x → 2 ^ 1074 * 2 ≤ 2 ^ x
doubled x h =
    let power : 2 ^ 1075 ≡ 2 ^ 1074 * 2 = pow-suc 2 1074 in
    rw (← power) (pow-le-pow_right (zero-lt-suc 1) h)

-- the infinities and the NaN patterns
special : (s : Bool) (t : ℕ) → in_range (of_fields binary64 s 2047 t) ≡ false
unfolding in_range of_fields
special s t = go (eqb t 0)
  where
    go : (z : Bool) → (finite (cond z (inf s) nan) && ltb (num (cond z (inf s) nan)) (2 ^ 53 * den (cond z (inf s) nan))) ≡ false
    go true = refl
    go false = refl

-- below 2 ^ 53
pub pattern_in : (b : ℕ) → b % 2 ^ 63 < 1076 * 2 ^ 52 → in_range (of_bits binary64 b) ≡ true
pattern_in b h = go (b % 2 ^ 63 / 2 ^ 52) refl
  where
    go : (e : ℕ) → b % 2 ^ 63 / 2 ^ 52 ≡ e → in_range (of_bits binary64 b) ≡ true
    go zero e =
        fraction_in (of_bits binary64 b) (leb (2 ^ 63) b) (b % 2 ^ 52) (2 ^ 1074) (pattern_low b e)
        (few (b % 2 ^ 52) (2 ^ 1074) (omega arith) (pow_pos 1074))
    go (suc x) e =
        let k : ℕ = 1074 - x in
        let sum : k + x ≡ 1074 = omega arith in
        fraction_in (of_bits binary64 b) (leb (2 ^ 63) b) (2 ^ 52 + b % 2 ^ 52) (2 ^ k) (pattern_mid b x k e sum)
        (few (2 ^ 52 + b % 2 ^ 52) (2 ^ k) (omega arith) (pow_pos k))

-- from there on
pub pattern_out : (b : ℕ) → 1076 * 2 ^ 52 ≤ b % 2 ^ 63 → in_range (of_bits binary64 b) ≡ false
pattern_out b h = go (b % 2 ^ 63 / 2 ^ 52) refl
  where
    go : (e : ℕ) → b % 2 ^ 63 / 2 ^ 52 ≡ e → in_range (of_bits binary64 b) ≡ false
    go zero e = absurd (omega arith)
    go (suc x) e =
        elim (dec_le 2047 (suc x)) [
          | yes w ↦
              let all : suc x ≡ 2047 = omega arith in
              rw (bits_fields b, e, all) (special (leb (2 ^ 63) b) (b % 2 ^ 52))
          | no w ↦
              let less = lt_of_not-le w in
              fraction_out (of_bits binary64 b) (leb (2 ^ 63) b) ((2 ^ 52 + b % 2 ^ 52) * 2 ^ x) (2 ^ 1074) (pattern_high b x e less) (pow_pos 1074)
              (many (b % 2 ^ 52) (2 ^ 1074) (2 ^ x) (doubled x (omega arith)))
        ]
