-- The operations on numbers whose sign is told apart: s and the size p - n. A law on sizes then serves every sign. Assumes nothing.
use mathlib.Core.Path.{◌≡◌}
use mathlib.Core.Bool.{Bool, true, false}
use Prim.Native.Nat.{ℕ, ◌+◌, ◌*◌, ◌^◌, ◌≤◌, ◌<◌}
use native.Mathlib.Omega.{arith}
use lib.Ieee.{Float, binary64, unlike, add, sub, mul}
use Rattle.pxfm.proofs.Value.{Val, Rounds, val_same, add_rounds, sub_rounds}
use Rattle.pxfm.proofs.Product.{rounds_same, mul_rounds}
use Rattle.pxfm.proofs.Exact.{exact64_at}

-- p and n in their places, or exchanged where s is true.
abbrev pub Turned : Bool → (ℕ → ℕ → Type 0) → ℕ → ℕ → Type 0
Turned false P p n = P p n
Turned true P p n = P n p

-- x is p - n times 2 ^ j units, with the other sign where s is true.
pub record Signed (s : Bool) (x : Float) (p n j : ℕ) : Type 0 where
  pub is : Turned s (λ p n. Val binary64 x p n j) p n

-- x is what that number rounds to.
pub record SignedRounds (s : Bool) (x : Float) (p n j : ℕ) : Type 0 where
  pub is : Turned s (λ p n. Rounds binary64 x p n j) p n

-- The same number of the other sign.
pub flip : {s : Bool} {x : Float} {p n j : ℕ} → Signed s x p n j → Signed (unlike true s) x n p j
flip {s = false} v = record { is = v.is }
flip {s = true} v = record { is = v.is }

pub rounds_flip : {s : Bool} {x : Float} {p n j : ℕ} → SignedRounds s x p n j → SignedRounds (unlike true s) x n p j
rounds_flip {s = false} v = record { is = v.is }
rounds_flip {s = true} v = record { is = v.is }

pub signed_same : {s : Bool} {x : Float} {p n j : ℕ} (p' n' : ℕ) → p + n' ≡ p' + n → Signed s x p n j → Signed s x p' n' j
signed_same {s = false} p' n' e v = record { is = val_same p' n' e v.is }
signed_same {s = true} p' n' e v = record { is = val_same n' p' (omega arith) v.is }

pub add_signed : {s : Bool} {x y : Float} {p n q m j : ℕ} → Signed s x p n j → Signed s y q m j
    → SignedRounds s (add binary64 x y) (p + q) (n + m) j
add_signed {s = false} v w = record { is = add_rounds v.is w.is }
add_signed {s = true} v w = record { is = add_rounds v.is w.is }

pub sub_signed : {s : Bool} {x y : Float} {p n q m j : ℕ} → Signed s x p n j → Signed s y q m j
    → SignedRounds s (sub binary64 x y) (p + m) (n + q) j
sub_signed {s = false} v w = record { is = sub_rounds v.is w.is }
sub_signed {s = true} v w = record { is = sub_rounds v.is w.is }

pub mul_signed : {s t : Bool} {x y : Float} {p n q m i k : ℕ} (j : ℕ) → i + k ≡ j + 1074 → Signed s x p n i → Signed t y q m k
    → SignedRounds (unlike s t) (mul binary64 x y) (p * q + n * m) (p * m + n * q) j
mul_signed {s = false} {t = false} j e v w = record { is = mul_rounds j e v.is w.is }
mul_signed {s = false} {t = true} j e v w = record { is = mul_rounds j e v.is w.is }
mul_signed {s = true} {t = false} {p = p} {n = n} {q = q} {m = m} j e v w =
    record { is = rounds_same (p * m + n * q) (p * q + n * m) (omega arith) (mul_rounds j e v.is w.is) }
mul_signed {s = true} {t = true} {p = p} {n = n} {q = q} {m = m} j e v w =
    record { is = rounds_same (p * q + n * m) (p * m + n * q) (omega arith) (mul_rounds j e v.is w.is) }

-- A multiple of 2 ^ i of few digits is not changed.
pub exact_signed : {s : Bool} {x : Float} {p n j : ℕ} → SignedRounds s x p n j → (i p' n' : ℕ)
    → (i + j ≤ 2045) × (p + 2 ^ i * n' ≡ 2 ^ i * p' + n) × (p' < 2 ^ 53 + n') × (n' < 2 ^ 53 + p') → Signed s x (2 ^ i * p') (2 ^ i * n') j
exact_signed {s = false} v i p' n' h = record { is = exact64_at v.is i p' n' h }
exact_signed {s = true} v i p' n' h = record { is = exact64_at v.is i n' p' (h.0, omega (arith, h.1), h.3, h.2) }
