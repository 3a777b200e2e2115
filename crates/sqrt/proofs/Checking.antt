-- The check of a guess s = g * 2 ^ 22 + l at the root of q * 2 ^ 54, on natural numbers: the remainder from three products of halves of s,
-- and that the differences which the code takes modulo 2 ^ 64 are exact where its tests pass. Assumes nothing.
use Rattle.std.proofs.Common.{◌≡◌, ℕ, zero, suc, ◌+◌, ◌-◌, ◌*◌, ◌%◌, ◌^◌, ◌<◌, ◌≤◌, ap, ◌∙◌, mul-le-mul, mul_right_comm, arith}
use native.Mathlib.Nat.{mul-mul-mul_comm}
use Rattle.sqrt.specs.Steps.{IsFirst, IsWhole}
use Rattle.sqrt.proofs.Squares.{sq_suc, sq_add, whole_of_rest}

-- a product of numbers up to a and b
pub product_le : (a b x y : ℕ) → x ≤ a → y ≤ b → x * y ≤ a * b
product_le a b x y h k = mul-le-mul h k

-- ---- the first half, g: t - 16 is its remainder under q * 2 ^ 10

pub first_half : (q g t : ℕ) → 2 ^ 52 ≤ q → q < 2 ^ 54 → g < 2 ^ 32 → t < 2 ^ 36 → (t + g * g) % 2 ^ 64 ≡ q * 1024 + 16 → IsFirst q g t
first_half q g t lo hi G T e =
    let h : g * g ≤ 2 ^ 32 * 2 ^ 32 = product_le (2 ^ 32) (2 ^ 32) g g (omega arith) (omega arith) in
    let s : t + g * g ≡ q * 2 ^ 10 + 16 = omega arith in
    record { sum = s; g_pos = positive g s; g_lt = G; t_lt = T }
  where
    positive : (g : ℕ) → t + g * g ≡ q * 2 ^ 10 + 16 → 0 < g
    positive zero s = absurd (omega arith)
    positive (suc g) s = omega arith

-- ---- the whole guess

-- what the code knows of e once its test has passed
pub record Step (q g t l e : ℕ) : Type 0 where
  pub q_ge : 2 ^ 52 ≤ q
  pub q_lt : q < 2 ^ 54
  pub first : IsFirst q g t
  pub l_lt : l < 2 ^ 26
  pub e_lt : e < 2 ^ 40
  pub e_is : (e + g * l) % 2 ^ 64 ≡ (t + 4080) * 2 ^ 21

module _ (q g t l e : ℕ) (S : Step q g t l e) where
  cross_le : g * l ≤ 2 ^ 32 * 2 ^ 26
  cross_le = product_le (2 ^ 32) (2 ^ 26) g l (let h = S.first.g_lt in omega arith) (let h = S.l_lt in omega arith)

  low_le : l * l ≤ 2 ^ 26 * 2 ^ 26
  low_le = product_le (2 ^ 26) (2 ^ 26) l l (let h = S.l_lt in omega arith) (let h = S.l_lt in omega arith)

  e_exact : e + g * l ≡ (t + 4080) * 2 ^ 21
  e_exact =
      let a = cross_le in
      let b = S.e_is in
      let c = S.e_lt in
      let d = S.first.t_lt in
      omega arith

  square : (g * 2 ^ 22 + l) * (g * 2 ^ 22 + l) ≡ g * g * 2 ^ 44 + g * l * 2 ^ 23 + l * l
  square =
      let a = sq_add (g * 2 ^ 22) l in
      let b : g * 2 ^ 22 * (g * 2 ^ 22) ≡ g * g * 2 ^ 44 = mul-mul-mul_comm g (2 ^ 22) g (2 ^ 22) in
      let c : g * 2 ^ 22 * l ≡ g * l * 2 ^ 22 = mul_right_comm g (2 ^ 22) l in
      omega arith

  -- n and the square differ by what e says
  balance : q * 2 ^ 54 + l * l + 2 ^ 56 ≡ (g * 2 ^ 22 + l) * (g * 2 ^ 22 + l) + e * 2 ^ 23
  balance =
      let a = square in
      let b = e_exact in
      let c = S.first.sum in
      omega arith

  -- the guess is the root
  pub guess_right : (r : ℕ) → (r + (l * l + 2 ^ 56)) % 2 ^ 64 ≡ e * 2 ^ 23 → r ≤ (g * 2 ^ 22 + l) * 2
      → IsWhole q (g * 2 ^ 22 + l) r
  guess_right r h k =
      let a = balance in
      let b = low_le in
      let c = S.e_lt in
      let d = S.first.g_lt in
      let f = S.l_lt in
      let m : r + (l * l + 2 ^ 56) ≡ e * 2 ^ 23 = omega arith in
      whole_of_rest q (g * 2 ^ 22 + l) r S.q_ge S.q_lt (record { sum = omega arith; small = omega arith })

  -- the guess is one too large: its remainder is negative, and was taken modulo 2 ^ 64
  pub guess_less : (r u : ℕ) → (r + (l * l + 2 ^ 56)) % 2 ^ 64 ≡ e * 2 ^ 23 → r < 2 ^ 64 → (g * 2 ^ 22 + l) * 2 < r
      → u ≡ (r + ((g * 2 ^ 22 + l) * 2 - 1)) % 2 ^ 64 → u ≤ (g * 2 ^ 22 + l) * 2 - 2 → IsWhole q (g * 2 ^ 22 + l - 1) u
  guess_less r u h R k U small =
      let a = balance in
      let b = low_le in
      let c = S.e_lt in
      let d = S.first.g_lt in
      let f = S.l_lt in
      let p = S.first.g_pos in
      let x = g * 2 ^ 22 + l - 1 in
      let w : g * 2 ^ 22 + l ≡ x + 1 = omega arith in
      let v : (g * 2 ^ 22 + l) * (g * 2 ^ 22 + l) ≡ x * x + 2 * x + 1 = ap (λ (y : ℕ). y * y) w ∙ sq_suc x in
      let m : r + ((g * 2 ^ 22 + l) * 2 - 1) ≡ u + 2 ^ 64 = omega arith in
      let n : u + (l * l + 2 ^ 56) ≡ e * 2 ^ 23 + ((g * 2 ^ 22 + l) * 2 - 1) = omega arith in
      whole_of_rest q x u S.q_ge S.q_lt (record { sum = omega arith; small = omega arith })
