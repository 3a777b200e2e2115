-- Squares and whole roots of natural numbers: a root's bounds from its square's, and that `isqrt` is the whole root. Assumes nothing.
-- The other laws take a whole root by its two inequalities and never open `isqrt`.
use Rattle.std.proofs.Common.{◌≡◌, ℕ, zero, suc, ◌+◌, ◌*◌, ◌/◌, ◌^◌, ◌<◌, ◌≤◌, Bool, true, false, cond, not, T, leb, ap, ◌∙◌, subst, lt_of_lt_of_le, lt_of_le_of_lt, le_of_lt, mul_comm, add-mul, mul-le-mul, pow-suc, lt_of_not-le, mul-add, not-le_of_lt, arith, leb→le}
use native.Mathlib.Nat.{mul-mul-mul_comm}
use lib.Dec.{nleb→lt}
use lib.Ieee.{size}
use lib.Ieee.Digits.{size-lt}
use Rattle.sqrt.specs.Sqrt.{IsRoot, isqrt_to, isqrt}
use Rattle.sqrt.specs.Steps.{IsRest, IsWhole}
use Rattle.double_bits.proofs.Digits.{size_above}

-- ---- squares

pub sq_suc : (t : ℕ) → (t + 1) * (t + 1) ≡ t * t + 2 * t + 1
sq_suc t = omega (arith, add-mul t 1 (t + 1), mul-add t t 1)

pub sq_add : (x q : ℕ) → (x + q) * (x + q) ≡ x * x + 2 * (x * q) + q * q
sq_add x q = omega (arith, add-mul x q (x + q), mul-add x x q, mul-add q x q, mul_comm q x)

pub sq_dbl : (t : ℕ) → (2 * t) * (2 * t) ≡ 4 * (t * t)
sq_dbl t = mul-mul-mul_comm 2 t 2 t

-- a smaller square has a smaller root
pub root_lt : (a b : ℕ) → a * a < b * b → a < b
root_lt a b h = lt_of_not-le (λ (g : b ≤ a). not-le_of_lt h (mul-le-mul g g))

pub root_le : (a b n : ℕ) → a * a ≤ n → n < (b + 1) * (b + 1) → a ≤ b
root_le a b n h k = let l : a < b + 1 = root_lt a (b + 1) (lt_of_le_of_lt h k) in omega arith

-- ---- a whole root with its remainder

pub rest_root : (n s r : ℕ) → IsRest n s r → IsRoot n s
rest_root n s r p = let e = sq_suc s in let h = p.sum in let k = p.small in record { low = omega arith; high = omega arith }

pub rest_lt : (b n s r : ℕ) → n < b * b → IsRest n s r → s < b
rest_lt b n s r h p = root_lt s b (let e = p.sum in omega arith)

pub rest_ge : (b n s r : ℕ) → b * b ≤ n → IsRest n s r → b ≤ s
rest_ge b n s r h p = root_le b s n h (rest_root n s r p).high

-- the whole root of q * 2 ^ 54 has 54 binary digits
pub whole_of_rest : (q s r : ℕ) → 2 ^ 52 ≤ q → q < 2 ^ 54 → IsRest (q * 2 ^ 54) s r → IsWhole q s r
whole_of_rest q s r lo hi p =
    let root = rest_root (q * 2 ^ 54) s r p in
    let s_ge = rest_ge (2 ^ 53) (q * 2 ^ 54) s r (omega arith) p in
    record {
      digits = le_of_lt (size_above 53 s s_ge);
      square = root.low;
      successor = root.high;
      rest = p;
      s_ge = s_ge;
      s_lt = rest_lt (2 ^ 54) (q * 2 ^ 54) s r (omega arith) p;
    }

-- ---- isqrt

-- one binary digit more: the root of n from that of n / 4
digit : (b : Bool) (s n : ℕ) → IsRoot (n / 4) s → (T b → (2 * s + 1) * (2 * s + 1) ≤ n) → (T (not b) → n < (2 * s + 1) * (2 * s + 1))
    → IsRoot n (2 * s + cond b 1 0)
digit true s n i h k =
    record {
      low = h tt;
      high =
          let e : (2 * s + 1 + 1) * (2 * s + 1 + 1) ≡ 4 * ((s + 1) * (s + 1)) = ap (λ (x : ℕ). x * x) (twice s) ∙ sq_dbl (s + 1) in
          let g : n / 4 < (s + 1) * (s + 1) = i.high in
          omega arith;
    }
  where
    twice : (s : ℕ) → 2 * s + 1 + 1 ≡ 2 * (s + 1)
    twice s = omega arith
digit false s n i h k =
    record {
      low = subst (λ (x : ℕ). x * x ≤ n) (no_more s) (let e = sq_dbl s in let g : s * s ≤ n / 4 = i.low in omega arith);
      high = subst (λ (x : ℕ). n < (x + 1) * (x + 1)) (no_more s) (k tt);
    }
  where
    no_more : (s : ℕ) → 2 * s ≡ 2 * s + 0
    no_more s = omega arith

isqrt_to_is : (k n : ℕ) → n < 4 ^ k → IsRoot n (isqrt_to k n)
unfolding isqrt_to
isqrt_to_is zero n h = record { low = omega arith; high = omega arith }
isqrt_to_is (suc k) n h =
    let s = isqrt_to k (n / 4) in
    let p : 4 ^ suc k ≡ 4 ^ k * 4 = pow-suc 4 k in
    digit (leb ((2 * s + 1) * (2 * s + 1)) n) s n (isqrt_to_is k (n / 4) (omega arith))
    (leb→le ((2 * s + 1) * (2 * s + 1)) n) (nleb→lt ((2 * s + 1) * (2 * s + 1)) n)

two_four : (k : ℕ) → 2 ^ k ≤ 4 ^ k
two_four zero = omega arith
two_four (suc k) = let h = two_four k in omega (arith, pow-suc 2 k, pow-suc 4 k)

pub isqrt_is : (n : ℕ) → IsRoot n (isqrt n)
unfolding isqrt
isqrt_is n = isqrt_to_is (size n) n (lt_of_lt_of_le (size-lt n) (two_four (size n)))
