-- The first step of the root of a positive double: its pattern as the scaled significand. Assumes nothing.
-- A pattern b with the exponent's field e and the digits t stands for t units where e is 0, and else for (2 ^ 52 + t) * 2 ^ (e - 1) units.
use Rattle.std.proofs.Common.{◌≡◌, ℕ, zero, suc, ◌+◌, ◌-◌, ◌*◌, ◌/◌, ◌%◌, ◌^◌, ◌<◌, ◌≤◌, false, sym, refl, ap, ◌∙◌, subst, le_refl, mul-le-mul_right, zero-lt-suc, mul_assoc, mul-one, mul_right_comm, mul-div_cancel, arith, pow-add}
use native.Mathlib.Nat.{pow-succ'}
use native.Mathlib.Nat.{pow-le-pow_right}
use lib.Ieee.{Float, nan, inf, fin, Format, binary64, low, up, down, of_bits}
use lib.Ieee.Exact.{HasValue}
use lib.Ieee.Fits.{down_pos}
use Rattle.double_bits.proofs.Digits.{add_exponents}
use Rattle.double_bits.proofs.Fields.{pattern_low, pattern_mid}
use Rattle.sqrt.specs.Sqrt.{radicand}
use Rattle.sqrt.specs.Steps.{IsScaled}
use Rattle.sqrt.proofs.OneRounding.{four_pow}

-- ---- powers of four

-- q * 2 ^ a * 4 ^ n with the exponents added up
exponents : (q a n k l : ℕ) → a + (n + n) ≡ k + l → q * 2 ^ a * 4 ^ n ≡ q * 2 ^ k * 2 ^ l
exponents q a n k l e = ap (λ (x : ℕ). q * 2 ^ a * x) (four_pow n ∙ sym (pow-add 2 n n)) ∙ add_exponents q a (n + n) k l e

-- ---- the loop of `subnormal`: q * 4 ^ z stays m * 4 ^ 510

pub record Shifted (m q z : ℕ) : Type 0 where
  pub same : q * 4 ^ z ≡ m * 4 ^ 510
  pub q_lt : q < 2 ^ 54
  pub z_le : z ≤ 510

pub shifted_start : (m : ℕ) → m < 2 ^ 52 → Shifted m m 510
shifted_start m h = record { same = refl; q_lt = omega arith; z_le = le_refl 510 }

-- there is a factor four to take while q is short
pub shifted_pos : (m q z : ℕ) → 0 < m → Shifted m q z → q < 2 ^ 52 → 1 ≤ z
shifted_pos m q zero M s h =
    let a : 4 ^ 26 ≤ 4 ^ 510 = pow-le-pow_right (zero-lt-suc 3) (let h : 26 ≤ 510 = omega arith in h) in
    let b : 1 * 4 ^ 510 ≤ m * 4 ^ 510 = mul-le-mul_right (4 ^ 510) M in
    absurd (too_small (4 ^ 510) (m * 4 ^ 510) q a b s.same h)
  where
    too_small : (f g q : ℕ) → 4 ^ 26 ≤ f → 1 * f ≤ g → q * 4 ^ 0 ≡ g → q < 2 ^ 52 → ⊥
    too_small f g q a b c h = omega arith
shifted_pos m q (suc z) M s h = omega arith

pub shifted_next : (m q z : ℕ) → 1 ≤ z → q < 2 ^ 52 → Shifted m q z → Shifted m (q * 4) (z - 1)
shifted_next m q zero h k s = absurd (omega arith)
shifted_next m q (suc z) h k s =
    let e : suc z - 1 ≡ z = omega arith in
    record {
      same = ap (λ (x : ℕ). q * 4 * 4 ^ x) e ∙ mul_assoc q 4 (4 ^ z) ∙ ap (λ (x : ℕ). q * x) (sym (pow-succ' 4 z)) ∙ s.same;
      q_lt = omega arith;
      z_le = let l = s.z_le in omega arith;
    }

pub shifted_end : (m q z : ℕ) → Shifted m q z → 2 ^ 52 ≤ q → IsScaled (m * 2 ^ 1074) q z
shifted_end m q z s h =
    record {
      same = sym (mul_right_comm q (2 ^ 54) (4 ^ z) ∙ ap (λ (x : ℕ). x * 2 ^ 54) s.same ∙ mul_right_comm m (4 ^ 510) (2 ^ 54) ∙ full m);
      q_ge = h;
      q_lt = s.q_lt;
      z_lt = let l = s.z_le in omega arith;
    }
  where
    full : (m : ℕ) → m * 2 ^ 54 * 4 ^ 510 ≡ m * 2 ^ 1074
    full m = exponents m 54 510 0 1074 refl ∙ ap (λ (x : ℕ). x * 2 ^ 1074) (mul-one m)

-- ---- what a pattern stands for

pub radicand_of : (f : Format) (x : Float) (a : ℕ) → HasValue x false a (2 ^ low f) → radicand f x ≡ a * 2 ^ low f
radicand_of f nan a h = absurd h
radicand_of f (inf s) a h = absurd h
radicand_of f (fin s m e) a h =
    ap (λ (x : ℕ). m * up e * x / down e) (four_pow (low f))
    ∙ ap (λ (x : ℕ). x / down e)
    (sym (mul_assoc (m * up e) (2 ^ low f) (2 ^ low f)) ∙ ap (λ (x : ℕ). x * 2 ^ low f) h.1 ∙ mul_right_comm a (down e) (2 ^ low f))
    ∙ mul-div_cancel (a * 2 ^ low f) (down_pos e)

-- ---- the scaled significand of a pattern

-- below 2 ^ 52
pub scaled_low : (b q z : ℕ) → b / 2 ^ 52 ≡ 0 → IsScaled (b % 2 ^ 52 * 2 ^ 1074) q z → IsScaled (radicand binary64 (of_bits binary64 b)) q z
scaled_low b q z E s =
    subst (λ (n : ℕ). IsScaled n q z) (sym (radicand_of binary64 (of_bits binary64 b) (b % 2 ^ 52) (pattern_low b E))) s

-- from there up to the infinity's
module _ (b : ℕ) (B : b < 2047 * 2 ^ 52) (E : b / 2 ^ 52 ≡ 0 → ⊥) where
  radicand_mid : radicand binary64 (of_bits binary64 b) ≡ (b % 2 ^ 52 + 2 ^ 52) * 2 ^ (b / 2 ^ 52 - 1) * 2 ^ 1074
  radicand_mid = radicand_of binary64 (of_bits binary64 b) ((b % 2 ^ 52 + 2 ^ 52) * 2 ^ (b / 2 ^ 52 - 1)) (pattern_mid b B E)

  -- an even power of two, counted from the field e + 1019
  pub scaled_even : (b / 2 ^ 52 + 1019) % 2 ≡ 0 → IsScaled (radicand binary64 (of_bits binary64 b)) (b % 2 ^ 52 + 2 ^ 52) ((b / 2 ^ 52 + 1019) / 2)
  scaled_even h =
      record {
        same = radicand_mid ∙ sym (exponents (b % 2 ^ 52 + 2 ^ 52) 54 ((b / 2 ^ 52 + 1019) / 2) (b / 2 ^ 52 - 1) 1074 (omega arith));
        q_ge = omega arith;
        q_lt = omega arith;
        z_lt = omega arith;
      }

  pub scaled_odd : ((b / 2 ^ 52 + 1019) % 2 ≡ 0 → ⊥)
      → IsScaled (radicand binary64 (of_bits binary64 b)) ((b % 2 ^ 52 + 2 ^ 52) * 2) ((b / 2 ^ 52 + 1019) / 2)
  scaled_odd h =
      record {
        same =
            radicand_mid
            ∙ sym
            (ap (λ (x : ℕ). x * 4 ^ ((b / 2 ^ 52 + 1019) / 2)) (mul_assoc (b % 2 ^ 52 + 2 ^ 52) 2 (2 ^ 54))
            ∙ exponents (b % 2 ^ 52 + 2 ^ 52) 55 ((b / 2 ^ 52 + 1019) / 2) (b / 2 ^ 52 - 1) 1074 (omega arith));
        q_ge = omega arith;
        q_lt = omega arith;
        z_lt = omega arith;
      }
