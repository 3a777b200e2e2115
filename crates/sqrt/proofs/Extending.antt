-- One step of the root by division, on natural numbers: from a root s with remainder r, the next digits are the quotient q of r * w + hi
-- by 2 * s, or one less, as the square of q says. Assumes nothing.
use Rattle.std.proofs.Common.{◌≡◌, ℕ, zero, suc, ◌+◌, ◌-◌, ◌*◌, ◌/◌, ◌%◌, ◌^◌, ◌<◌, ◌≤◌, sym, refl, ap, ◌∙◌, le_trans, le_of_eq, mul-le-mul_right, mod-lt, mul_assoc, suc-mul, mul_comm, add-mul, mul-le-mul, lt_of_mul-lt-mul_right, div-add-mod', mul_right_comm, arith}
use native.Mathlib.Nat.{mul-mul-mul_comm}
use Rattle.sqrt.specs.Steps.{IsRest}
use Rattle.sqrt.proofs.Squares.{sq_suc, sq_add}

-- the quotient, and what is left under the root when it is taken off but for its own square
abbrev pub quotient : ℕ → ℕ → ℕ → ℕ → ℕ
quotient s r w hi = (r * w + hi) / (s * 2)

abbrev pub left : ℕ → ℕ → ℕ → ℕ → ℕ → ℕ
left s r w hi lo = (r * w + hi) % (s * 2) * w + lo

-- the sizes of the products, which are all that `omega` needs to know of them
pub record Sizes (s r w hi lo : ℕ) : Type 0 where
  pub rw : r * w ≤ 2 ^ 55
  pub sw : s * w ≤ 2 ^ 54
  pub left_lt : left s r w hi lo < 2 * (s * w)
  pub quotient_le : quotient s r w hi ≤ w
  pub square_le : quotient s r w hi * quotient s r w hi ≤ 2 * (s * w)

module _ (s r w hi lo : ℕ) (R : r ≤ 2 * s) (S : 0 < s) (W : w ≤ 2 * s) (H : hi < w) (L : lo < w) where
  divided : quotient s r w hi * (s * 2) + (r * w + hi) % (s * 2) ≡ r * w + hi
  divided = div-add-mod' (r * w + hi) (s * 2)

  mod_small : (r * w + hi) % (s * 2) < s * 2
  mod_small = mod-lt (r * w + hi) (omega arith)

  quotient_le_w : quotient s r w hi ≤ w
  quotient_le_w =
      let a : r * w ≤ 2 * s * w = mul-le-mul_right w R in
      let b : (w + 1) * (s * 2) ≡ w * (s * 2) + 1 * (s * 2) = add-mul w 1 (s * 2) in
      let c : w * (s * 2) ≡ 2 * s * w = mul_comm w (s * 2) ∙ ap (λ (x : ℕ). x * w) (mul_comm s 2) in
      let l : quotient s r w hi < w + 1 = lt_of_mul-lt-mul_right (s * 2) (let e = divided in omega arith) in
      omega arith

  left_lt_2sw : left s r w hi lo < 2 * (s * w)
  left_lt_2sw =
      let a : suc ((r * w + hi) % (s * 2)) * w ≤ s * 2 * w = mul-le-mul_right w mod_small in
      let b = suc-mul ((r * w + hi) % (s * 2)) w in
      let c : s * 2 * w ≡ s * w * 2 = mul_right_comm s 2 w in
      omega arith

  square_le_2sw : quotient s r w hi * quotient s r w hi ≤ 2 * (s * w)
  square_le_2sw = le_trans (mul-le-mul quotient_le_w quotient_le_w) (le_trans (mul-le-mul_right w W) (le_of_eq (mul_assoc 2 s w)))

  pub sizes : s < 2 ^ 27 → w ≤ 2 ^ 27 → Sizes s r w hi lo
  sizes s_lt w_le =
      let a : r ≤ 2 ^ 28 = omega arith in
      let b : s ≤ 2 ^ 27 = omega arith in
      record {
        rw = mul-le-mul a w_le;
        sw = mul-le-mul b w_le;
        left_lt = left_lt_2sw;
        quotient_le = quotient_le_w;
        square_le = square_le_2sw;
      }

  -- the number under the root, with the quotient's square on the other side
  total : (s * s + r) * (w * w) + hi * w + lo + quotient s r w hi * quotient s r w hi
      ≡ (s * w + quotient s r w hi) * (s * w + quotient s r w hi) + left s r w hi lo
  total =
      let q = quotient s r w hi in
      let u = (r * w + hi) % (s * 2) in
      let a : (s * w + q) * (s * w + q) ≡ s * w * (s * w) + 2 * (s * w * q) + q * q = sq_add (s * w) q in
      let b : s * w * (s * w) ≡ s * s * (w * w) = mul-mul-mul_comm s w s w in
      let c : (s * s + r) * (w * w) ≡ s * s * (w * w) + r * (w * w) = add-mul (s * s) r (w * w) in
      let d : r * (w * w) ≡ r * w * w = sym (mul_assoc r w w) in
      let e : (r * w + hi) * w ≡ r * w * w + hi * w = add-mul (r * w) hi w in
      let f : (q * (s * 2) + u) * w ≡ (r * w + hi) * w = ap (λ (x : ℕ). x * w) divided in
      let g : (q * (s * 2) + u) * w ≡ q * (s * 2) * w + u * w = add-mul (q * (s * 2)) u w in
      let h : q * (s * 2) * w ≡ 2 * (s * w * q) =
      ap (λ (x : ℕ). x * w) (sym (mul_assoc q s 2)) ∙ mul_right_comm (q * s) 2 w ∙ mul_comm (q * s * w) 2
      ∙ ap (λ (x : ℕ). 2 * x) (mul_assoc q s w ∙ mul_comm q (s * w)) in
      omega arith

  -- the quotient is above 0 where its square is above anything
  pub quotient_pos : left s r w hi lo < quotient s r w hi * quotient s r w hi → 1 ≤ quotient s r w hi
  quotient_pos h = go (quotient s r w hi) refl
    where
      go : (q : ℕ) → quotient s r w hi ≡ q → 1 ≤ quotient s r w hi
      go zero e = absurd (let k : quotient s r w hi * quotient s r w hi ≡ 0 = ap (λ (x : ℕ). x * x) e in omega arith)
      go (suc q) e = omega arith

  -- the quotient is the next digits
  pub extend_kept : quotient s r w hi * quotient s r w hi ≤ left s r w hi lo
      → IsRest ((s * s + r) * (w * w) + hi * w + lo) (s * w + quotient s r w hi) (left s r w hi lo - quotient s r w hi * quotient s r w hi)
  extend_kept h = let a = total in let b = left_lt_2sw in record { sum = omega arith; small = omega arith }

  -- the next digits are one less
  pub extend_less : left s r w hi lo < quotient s r w hi * quotient s r w hi
      → IsRest ((s * s + r) * (w * w) + hi * w + lo) (s * w + quotient s r w hi - 1)
      (left s r w hi lo + ((s * w + quotient s r w hi) * 2 - 1) - quotient s r w hi * quotient s r w hi)
  extend_less h =
      let p = quotient_pos h in
      let t = s * w + quotient s r w hi - 1 in
      let k : s * w + quotient s r w hi ≡ t + 1 = omega arith in
      let l : (s * w + quotient s r w hi) * (s * w + quotient s r w hi) ≡ t * t + 2 * t + 1 = ap (λ (x : ℕ). x * x) k ∙ sq_suc t in
      let a = total in
      let b = square_le_2sw in
      record { sum = omega arith; small = omega arith }
