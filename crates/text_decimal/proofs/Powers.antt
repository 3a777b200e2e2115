-- Fractions over powers of one base: two that are equal, crosswise; and of these the one over the higher power has an upper part that the base divides.
-- Assumes nothing.
use mathlib.Core.Path.{◌≡◌, sym, ap, ◌∙◌}
use Prim.Native.Nat.{ℕ, suc, ◌+◌, ◌-◌, ◌*◌, ◌%◌, ◌^◌, ◌<◌}
use native.Mathlib.Nat.{mul_assoc, mul_right_comm, mul-mod_left, eq_of_mul-eq-mul_right, pow-suc, one-le-pow}
use native.Mathlib.Omega.{arith}
use lib.Pow.{pow-add}

-- b / p and n / j are both a / c
pub crossed : (a c b p n j : ℕ) → 0 < c → b * c ≡ a * p → n * c ≡ a * j → b * j ≡ n * p
crossed a c b p n j h e f =
    eq_of_mul-eq-mul_right c h (b * j) (n * p)
    (mul_right_comm b j c ∙ ap (λ (x : ℕ). x * j) e ∙ mul_right_comm a p j ∙ ap (λ (x : ℕ). x * p) (sym f) ∙ mul_right_comm n c p)

-- n / c ^ j is m / c ^ k
pub base_divides : (c n j m k : ℕ) → 0 < c → n * c ^ k ≡ m * c ^ j → j < k → m % c ≡ 0
base_divides c n j m k p e h =
    let d : ℕ = k - suc j in
    let sum : suc d + j ≡ k = omega arith in
    let power : c ^ k ≡ c ^ suc d * c ^ j = ap (λ (i : ℕ). c ^ i) (sym sum) ∙ pow-add c (suc d) j in
    let scaled : n * c ^ suc d * c ^ j ≡ m * c ^ j = mul_assoc n (c ^ suc d) (c ^ j) ∙ ap (λ (q : ℕ). n * q) (sym power) ∙ e in
    let whole : n * c ^ suc d ≡ m = eq_of_mul-eq-mul_right (c ^ j) (one-le-pow j c p) (n * c ^ suc d) m scaled in
    let last : n * c ^ suc d ≡ n * c ^ d * c = ap (λ (q : ℕ). n * q) (pow-suc c d) ∙ sym (mul_assoc n (c ^ d) c) in
    ap (λ (q : ℕ). q % c) (sym whole ∙ last) ∙ mul-mod_left (n * c ^ d) c
