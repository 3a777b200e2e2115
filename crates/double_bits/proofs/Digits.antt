-- How many binary digits a whole number has, against the powers of two on either side of it, and a product with two such powers.
-- Powers of two rise strictly, and `size n` is the first exponent whose power is above n. Assumes nothing.
use mathlib.Core.Path.{◌≡◌, sym, ap, ◌∙◌}
use Prim.Native.Nat.{ℕ, suc, ◌+◌, ◌*◌, ◌^◌, ◌≤◌, ◌<◌}
use native.Mathlib.Nat.{lt_of_le_of_lt, lt_of_not-le, not-le_of_lt, le_antisymm, mul_assoc}
use lib.Pow.{pow-add, pow_mono}
use lib.Ieee.{size}
use lib.Ieee.Digits.{size-lt, size-le}

pub lt_of_pow_lt : (a b : ℕ) → 2 ^ a < 2 ^ b → a < b
lt_of_pow_lt a b h = lt_of_not-le (λ (g : b ≤ a). not-le_of_lt h (pow_mono g))

pub size_above : (a n : ℕ) → 2 ^ a ≤ n → a < size n
size_above a n h = lt_of_pow_lt a (size n) (lt_of_le_of_lt h (size-lt n))

pub size_exact : (a n : ℕ) → 2 ^ a ≤ n → n < 2 ^ suc a → size n ≡ suc a
size_exact a n lo hi = le_antisymm (size-le n (suc a) hi) (size_above a n lo)

-- q * 2 ^ a * 2 ^ b with the exponents added up
pub add_exponents : (q a b c d : ℕ) → a + b ≡ c + d → q * 2 ^ a * 2 ^ b ≡ q * 2 ^ c * 2 ^ d
add_exponents q a b c d e =
    mul_assoc q (2 ^ a) (2 ^ b)
    ∙ ap (λ (x : ℕ). q * x) (sym (pow-add 2 a b) ∙ ap (λ (x : ℕ). 2 ^ x) e ∙ pow-add 2 c d)
    ∙ sym (mul_assoc q (2 ^ c) (2 ^ d))
