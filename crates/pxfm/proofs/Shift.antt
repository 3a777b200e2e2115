-- A subnormal's significand, shifted up by its leading zeros less those above a full one, has a leading digit: for every width of the word
-- that holds it and every precision. For w = 64 bits and 53 digits, p = 52 of them behind the leading one, these are eleven. Assumes nothing.
use Rattle.std.proofs.Common.{◌≡◌, ℕ, suc, ◌+◌, ◌-◌, ◌*◌, ◌%◌, ◌^◌, ◌<◌, ◌≤◌, subst, lt_of_lt_of_le, lt_of_le_of_lt, le_of_lt, mul-le-mul_right, mod-eq_of_lt, mul-lt-mul_of_pos_right, arith, pow_pos, pow_mono, pow-add}
use lib.Count.{count_leading_zeros, leading_top}
use Rattle.double_bits.proofs.Digits.{lt_of_pow_lt}

-- The shift of a number of w bits that brings its highest bit to the place p.
abbrev pub shift_to : ℕ → ℕ → ℕ → ℕ
shift_to w p b = count_leading_zeros w b - (w - suc p)

-- The subtraction takes nothing below zero, the shift is at most p, and what it gives has p + 1 bits, of which none is lost.
pub record Shifted (w p b : ℕ) : Type 0 where
  pub least : w - p ≤ count_leading_zeros w b
  pub most : count_leading_zeros w b < w
  pub low : 2 ^ p ≤ b * 2 ^ shift_to w p b
  pub high : b * 2 ^ shift_to w p b < 2 ^ suc p
  pub kept : b * 2 ^ shift_to w p b % 2 ^ w ≡ b * 2 ^ shift_to w p b

-- The same, for the place j of the highest bit.
shifted_from : (w p b j : ℕ) → count_leading_zeros w b + suc j ≡ w → p < w → j < p → 2 ^ j ≤ b → b < 2 ^ suc j → Shifted w p b
shifted_from w p b j e f h l u =
    let k : shift_to w p b ≡ p - j = omega arith in
    let i : j + (p - j) ≡ p = omega arith in
    let i' : suc j + (p - j) ≡ suc p = omega arith in
    let s : 2 ^ j * 2 ^ (p - j) ≡ 2 ^ p = rw (← pow-add, i) in
    let t : 2 ^ suc j * 2 ^ (p - j) ≡ 2 ^ suc p = rw (← pow-add, i') in
    let high : b * 2 ^ shift_to w p b < 2 ^ suc p =
    rw k (subst (λ (n : ℕ). b * 2 ^ (p - j) < n) t (mul-lt-mul_of_pos_right u (pow_pos (p - j)))) in
    record {
      least = omega arith;
      most = omega arith;
      low = rw k (subst (λ (n : ℕ). n ≤ b * 2 ^ (p - j)) s (mul-le-mul_right (2 ^ (p - j)) l));
      high = high;
      kept = mod-eq_of_lt (lt_of_lt_of_le high (pow_mono f));
    }

pub shifted : (w p b : ℕ) → p < w → 0 < b → b < 2 ^ p → Shifted w p b
shifted w p b f z h =
    let t = leading_top w b z (lt_of_lt_of_le h (pow_mono (le_of_lt f))) in
    shifted_from w p b t.0 t.1 f (lt_of_pow_lt t.0 p (lt_of_le_of_lt t.2 h)) t.2 t.3
