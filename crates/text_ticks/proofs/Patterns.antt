-- What a bit pattern stands for, as a fraction: with the exponent's field e and the digits t, and whatever its sign, the double is t / 2 ^ 1074 where
-- e is 0, and else (2 ^ 52 + t) / 2 ^ (1075 - e), up to e = 1075; beyond, it is not below 2 ^ 53, or not finite. Assumes nothing.
use mathlib.Core.Path.{◌≡◌, refl, sym, ap, ◌∙◌, subst}
use mathlib.Core.Bool.{Bool, true, false, cond}
use Prim.Native.Nat.{ℕ, zero, suc, ◌+◌, ◌*◌, ◌/◌, ◌%◌, ◌^◌, ◌<◌}
use native.Mathlib.Nat.{mul-one, mul_assoc, mul_right_comm}
use native.Mathlib.Nat.{eq_of_mul-eq-mul_right}
use native.Mathlib.Omega.{arith}
use borrow.Author.Tests.{lt-leb, ne_eqb}
use lib.Dec.{eqb, leb}
use lib.Pow.{pow-add, pow_pos}
use lib.Ieee.{Float, nan, inf, fin, binary64, odd, of_fields, of_bits}
use lib.Ieee.Exact.{HasValue, odd_sign}
use lib.Ieee.Positive.{num, den}
use lib.Ieee.Scale.{finite}
use Rattle.text_ticks.specs.Ticks.{minus_of}

-- x is finite, has the sign s, and is a / c in size
pub record IsFraction (x : Float) (s : Bool) (a c : ℕ) : Type 0 where
  pub is_finite : finite x ≡ true
  pub sign : minus_of x ≡ s
  pub cross : num x * c ≡ a * den x

pub of_value : (x : Float) (s : Bool) (a c : ℕ) → HasValue x s a c → IsFraction x s a c
of_value nan s a c h = absurd h
of_value (inf t) s a c h = absurd h
of_value (fin t m e) s a c h = record { is_finite = refl; sign = h.0; cross = h.1 }

-- a common factor is taken out
pub reduced : (x : Float) (s : Bool) (a c p : ℕ) → 0 < p → IsFraction x s (a * p) (c * p) → IsFraction x s a c
reduced x s a c p h f =
    let left : num x * (c * p) ≡ num x * c * p = sym (mul_assoc (num x) c p) in
    let right : a * p * den x ≡ a * den x * p = mul_right_comm a p (den x) in
    record {
      is_finite = f.is_finite;
      sign = f.sign;
      cross = eq_of_mul-eq-mul_right p h (num x * c) (a * den x) (sym left ∙ f.cross ∙ right);
    }

-- ---- the fields

-- a field of 0
low_fraction : (s : Bool) (t : ℕ) → IsFraction (of_fields binary64 s 0 t) s t (2 ^ 1074)
unfolding of_fields
low_fraction s t =
    subst (λ (a : ℕ). IsFraction (of_fields binary64 s 0 t) s a (2 ^ 1074)) (mul-one t)
    (of_value (of_fields binary64 s 0 t) s (t * 2 ^ 0) (2 ^ 1074) (odd_sign 53 s t 0 1074))

-- a field between
mid_value : (s : Bool) (x t : ℕ) → suc x < 2047 → IsFraction (of_fields binary64 s (suc x) t) s ((2 ^ 52 + t) * 2 ^ x) (2 ^ 1074)
unfolding of_fields
mid_value s x t h =
    rw (ne_eqb (suc x) 2047 (λ e. omega arith))
    (of_value (odd 53 s (2 ^ 52 + t) x 1074) s ((2 ^ 52 + t) * 2 ^ x) (2 ^ 1074) (odd_sign 53 s (2 ^ 52 + t) x 1074))

mid_fraction : (s : Bool) (x k t : ℕ) → suc x < 2047 → k + x ≡ 1074 → IsFraction (of_fields binary64 s (suc x) t) s (2 ^ 52 + t) (2 ^ k)
mid_fraction s x k t h e =
    let power : 2 ^ 1074 ≡ 2 ^ k * 2 ^ x = ap (λ (n : ℕ). 2 ^ n) (sym e) ∙ pow-add 2 k x in
    reduced (of_fields binary64 s (suc x) t) s (2 ^ 52 + t) (2 ^ k) (2 ^ x) (pow_pos x)
    (subst (IsFraction (of_fields binary64 s (suc x) t) s ((2 ^ 52 + t) * 2 ^ x)) power (mid_value s x t h))

-- the size does not depend on the sign
odd_num : (d : ℕ) (s : Bool) (q k l : ℕ) → num (odd d s q k l) ≡ num (odd d false q k l)
unfolding odd
odd_num d s zero k l = refl
odd_num d s (suc q) k l = refl

odd_den : (d : ℕ) (s : Bool) (q k l : ℕ) → den (odd d s q k l) ≡ den (odd d false q k l)
unfolding odd
odd_den d s zero k l = refl
odd_den d s (suc q) k l = refl

fields_num : (s : Bool) (e t : ℕ) → num (of_fields binary64 s e t) ≡ num (of_fields binary64 false e t)
unfolding of_fields
fields_num s zero t = odd_num 53 s t 0 1074
fields_num s (suc x) t = go (eqb (suc x) 2047) (eqb t 0)
  where
    go : (b z : Bool)
        → num (cond b (cond z (inf s) nan) (odd 53 s (2 ^ 52 + t) x 1074)) ≡ num (cond b (cond z (inf false) nan) (odd 53 false (2 ^ 52 + t) x 1074))
    go true true = refl
    go true false = refl
    go false z = odd_num 53 s (2 ^ 52 + t) x 1074

fields_den : (s : Bool) (e t : ℕ) → den (of_fields binary64 s e t) ≡ den (of_fields binary64 false e t)
unfolding of_fields
fields_den s zero t = odd_den 53 s t 0 1074
fields_den s (suc x) t = go (eqb (suc x) 2047) (eqb t 0)
  where
    go : (b z : Bool)
        → den (cond b (cond z (inf s) nan) (odd 53 s (2 ^ 52 + t) x 1074)) ≡ den (cond b (cond z (inf false) nan) (odd 53 false (2 ^ 52 + t) x 1074))
    go true true = refl
    go true false = refl
    go false z = odd_den 53 s (2 ^ 52 + t) x 1074

-- ---- the pattern

pub bits_fields : (b : ℕ) → of_bits binary64 b ≡ of_fields binary64 (leb (2 ^ 63) b) (b % 2 ^ 63 / 2 ^ 52) (b % 2 ^ 52)
unfolding of_bits
bits_fields b = refl

-- without its sign
size_fields : (b : ℕ) → of_bits binary64 (b % 2 ^ 63) ≡ of_fields binary64 false (b % 2 ^ 63 / 2 ^ 52) (b % 2 ^ 52)
size_fields b =
    let again : b % 2 ^ 63 % 2 ^ 63 ≡ b % 2 ^ 63 = omega arith in
    let digits : b % 2 ^ 63 % 2 ^ 52 ≡ b % 2 ^ 52 = omega arith in
    bits_fields (b % 2 ^ 63) ∙ rw (lt-leb (2 ^ 63) (b % 2 ^ 63) (omega arith), again, digits)

pub size_num : (b : ℕ) → num (of_bits binary64 (b % 2 ^ 63)) ≡ num (of_bits binary64 b)
size_num b =
    ap num (size_fields b) ∙ sym (fields_num (leb (2 ^ 63) b) (b % 2 ^ 63 / 2 ^ 52) (b % 2 ^ 52)) ∙ ap num (sym (bits_fields b))

pub size_den : (b : ℕ) → den (of_bits binary64 (b % 2 ^ 63)) ≡ den (of_bits binary64 b)
size_den b =
    ap den (size_fields b) ∙ sym (fields_den (leb (2 ^ 63) b) (b % 2 ^ 63 / 2 ^ 52) (b % 2 ^ 52)) ∙ ap den (sym (bits_fields b))

-- the fractions of a pattern
pub pattern_low : (b : ℕ) → b % 2 ^ 63 / 2 ^ 52 ≡ 0 → IsFraction (of_bits binary64 b) (leb (2 ^ 63) b) (b % 2 ^ 52) (2 ^ 1074)
pattern_low b e = rw (bits_fields b, e) (low_fraction (leb (2 ^ 63) b) (b % 2 ^ 52))

pub pattern_mid : (b x k : ℕ) → b % 2 ^ 63 / 2 ^ 52 ≡ suc x → k + x ≡ 1074
    → IsFraction (of_bits binary64 b) (leb (2 ^ 63) b) (2 ^ 52 + b % 2 ^ 52) (2 ^ k)
pattern_mid b x k e p = rw (bits_fields b, e) (mid_fraction (leb (2 ^ 63) b) x k (b % 2 ^ 52) (omega arith) p)

pub pattern_high : (b x : ℕ) → b % 2 ^ 63 / 2 ^ 52 ≡ suc x → suc x < 2047
    → IsFraction (of_bits binary64 b) (leb (2 ^ 63) b) ((2 ^ 52 + b % 2 ^ 52) * 2 ^ x) (2 ^ 1074)
pattern_high b x e h = rw (bits_fields b, e) (mid_value (leb (2 ^ 63) b) x (b % 2 ^ 52) h)
