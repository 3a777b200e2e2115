-- What the last arm of a `match` over a table or a list knows: the number is none of those before it, so it is past the end.
-- Assumes nothing.
use mathlib.Core.Path.{◌≡◌, refl}
use mathlib.Core.List.{List, [], ◌∷◌}
use Prim.Native.Nat.{ℕ, zero, suc, ◌≤◌}
use native.Mathlib.Nat.{le_of_suc-le-suc}
use native.Mathlib.Omega.{arith}
use lib.ListN.{length, get_or}

-- i is none of the n numbers below n: what is left to the last arm of a `match` with an arm for each of them.
abbrev pub Missed : ℕ → ℕ → Type 0
Missed zero i = Unit {0}
Missed (suc n) i = Missed n i × (i ≡ n → ⊥)

above_each : (n i : ℕ) → n ≤ i → (i ≡ n → ⊥) → suc n ≤ i
above_each n i l h = omega arith

-- So it is n or more,
pub missed_le : (n i : ℕ) → Missed n i → n ≤ i
missed_le zero i m = omega arith
missed_le (suc n) i m = above_each n i (missed_le n i m.0) m.1

-- and past the end of a list of n entries, where the look-up answers d.
pub past_end : {A : Type 0} (d : A) (xs : List A) (i : ℕ) → length xs ≤ i → d ≡ get_or xs i d
past_end d [] i h = refl
past_end d (x ∷ xs) zero h = absurd (omega arith)
past_end d (x ∷ xs) (suc i) h = past_end d xs i (le_of_suc-le-suc h)
