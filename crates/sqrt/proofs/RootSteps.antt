-- Request 2026-02: the steps of the root, in the standard's sequence, make it, for every positive finite double, subnormals too. The scaled
-- significand has 53 or 54 digits before its 54 zeros, so its whole root has 54. Assumes nothing.
use Rattle.std.proofs.Common.{◌≡◌, ℕ, zero, suc, ◌+◌, ◌-◌, ◌*◌, ◌/◌, ◌%◌, ◌^◌, ◌<◌, ◌≤◌, true, T, sym, refl, ap, ◌∙◌, subst, zero-lt-suc, lt_of_not-le, arith}
use native.Mathlib.Decide.{ℕ_discrete, dec_le}
use lib.Ieee.{Float, binary64, fits, to_bits, of_bits, lt}
use lib.Ieee.Bits.{of_bits-to_bits}
use lib.Ieee.Positive.{positive}
use Rattle.sqrt.specs.Sqrt.{isqrt, round_sqrt, radicand}
use Rattle.sqrt.specs.Steps.{IsScaled, IsWhole, RootSteps}
use Rattle.sqrt.proofs.Squares.{whole_of_rest, isqrt_is, sq_suc}
use Rattle.sqrt.proofs.OneRounding.{odd_square, round_sqrt_scaled}
use Rattle.sqrt.proofs.Scaling.{Shifted, shifted_start, shifted_pos, shifted_next, shifted_end, scaled_low, scaled_even, scaled_odd}
use Rattle.sqrt.proofs.Special.{positive_above, positive_below, bits_pos, finite_root}

-- The whole root of the scaled significand, and its remainder.
whole_of : (q : ℕ) → 2 ^ 52 ≤ q → q < 2 ^ 54 → IsWhole q (isqrt (q * 2 ^ 54)) (q * 2 ^ 54 - isqrt (q * 2 ^ 54) * isqrt (q * 2 ^ 54))
whole_of q lo hi =
    let n = q * 2 ^ 54 in
    let s = isqrt n in
    let root = isqrt_is n in
    let below : s * s ≤ n = root.low in
    let above : n < (s + 1) * (s + 1) = root.high in
    let e = sq_suc s in
    whole_of_rest q s (n - s * s) lo hi (record { sum = omega arith; small = omega arith })

-- ---- the scaled significand

record Scaling (n : ℕ) : Type 0 where
  q : ℕ
  z : ℕ
  is : IsScaled n q z

-- A number of smallest doubles takes digits from the power of four until it has 53.
scaling_low : (m : ℕ) → 0 < m → m < 2 ^ 52 → Scaling (m * 2 ^ 1074)
scaling_low m M h = go 510 m (shifted_start m h)
  where
    pick : (q : ℕ) → (2 ^ 52 ≤ q → Scaling (m * 2 ^ 1074)) → (q < 2 ^ 52 → Scaling (m * 2 ^ 1074)) → Scaling (m * 2 ^ 1074)
    pick q f g = either (dec_le (2 ^ 52) q)
      where
        either : Dec (2 ^ 52 ≤ q) → Scaling (m * 2 ^ 1074)
        either (yes l) = f l
        either (no n) = g (lt_of_not-le n)

    go : (z q : ℕ) → Shifted m q z → Scaling (m * 2 ^ 1074)
    go zero q s =
        pick q (λ l. record { q = q; z = 0; is = shifted_end m q 0 s l }) (λ l. let k = shifted_pos m q 0 M s l in absurd (omega arith))
    go (suc z) q s =
        let e : suc z - 1 ≡ z = omega arith in
        pick q (λ l. record { q = q; z = suc z; is = shifted_end m q (suc z) s l })
        (λ l. go z (q * 4) (subst (Shifted m (q * 4)) e (shifted_next m q (suc z) (omega arith) l s)))

scaling_bits : (b : ℕ) → 0 < b → b < 2047 * 2 ^ 52 → Scaling (radicand binary64 (of_bits binary64 b))
scaling_bits b lo hi = go (ℕ_discrete (b / 2 ^ 52) 0)
  where
    parity : (b / 2 ^ 52 ≡ 0 → ⊥) → Dec ((b / 2 ^ 52 + 1019) % 2 ≡ 0) → Scaling (radicand binary64 (of_bits binary64 b))
    parity n (yes e) = record { q = b % 2 ^ 52 + 2 ^ 52; z = (b / 2 ^ 52 + 1019) / 2; is = scaled_even b hi n e }
    parity n (no e) = record { q = (b % 2 ^ 52 + 2 ^ 52) * 2; z = (b / 2 ^ 52 + 1019) / 2; is = scaled_odd b hi n e }

    low : b / 2 ^ 52 ≡ 0 → Scaling (b % 2 ^ 52 * 2 ^ 1074) → Scaling (radicand binary64 (of_bits binary64 b))
    low e s = record { q = s.q; z = s.z; is = scaled_low b s.q s.z e s.is }

    go : Dec (b / 2 ^ 52 ≡ 0) → Scaling (radicand binary64 (of_bits binary64 b))
    go (yes e) = low e (scaling_low (b % 2 ^ 52) (omega arith) (omega arith))
    go (no n) = parity n (ℕ_discrete ((b / 2 ^ 52 + 1019) % 2) 0)

-- ---- the steps

-- A tie would be a root whose last digit is 1, with nothing left: the number under the root is even.
no_tie : (q s r : ℕ) → IsWhole q s r → s % 2 ≡ 1 → 0 < r
no_tie q s r w o = go r refl
  where
    go : (k : ℕ) → r ≡ k → 0 < k
    go zero e = let h = w.rest.sum in absurd (odd_square s (q * 2 ^ 54) (omega arith) o (omega arith))
    go (suc k) e = zero-lt-suc k

pub root_steps : (x : Float) → T (fits binary64 x) → T (positive x) → RootSteps x
root_steps x f p = go (scaling_bits (to_bits binary64 x) (bits_pos x f above) below)
  where
    above : lt (of_bits binary64 0) x ≡ true
    above = positive_above x p

    below : to_bits binary64 x < 2047 * 2 ^ 52
    below = positive_below x f p

    back : of_bits binary64 (to_bits binary64 x) ≡ x
    back = of_bits-to_bits binary64 x f

    go : Scaling (radicand binary64 (of_bits binary64 (to_bits binary64 x))) → RootSteps x
    go k =
        let n = k.q * 2 ^ 54 in
        let s = isqrt n in
        let r = n - s * s in
        let w = whole_of k.q k.is.q_ge k.is.q_lt in
        record {
          q = k.q;
          z = k.z;
          s = s;
          r = r;
          scaled = subst (λ (y : Float). IsScaled (radicand binary64 y) k.q k.z) back k.is;
          whole = w;
          once =
              finite_root x f above below
              ∙ ap (round_sqrt binary64) k.is.same
              ∙ sym (round_sqrt_scaled binary64 n s r k.z w.rest (omega arith) w.s_ge w.s_lt);
          no_tie = no_tie k.q s r w;
        }
