-- A table cut into rows of 26: the entry at i is that at i % 26 of the row i / 26. Assumes nothing.
use mathlib.Core.Path.{◌≡◌, refl, ap, ◌∙◌}
use mathlib.Core.List.{List, [], ◌∷◌}
use Prim.Native.Nat.{ℕ, zero, suc, ◌*◌, ◌/◌, ◌%◌, ◌<◌, ◌≤◌}
use native.Mathlib.Nat.{le_of_suc-le-suc, not-suc-le-zero}
use native.Mathlib.Omega.{arith}
use lib.ListN.{length, get_or, take, drop}
use lib.Seq.{get_or-drop}
use Rattle.log_tables.proofs.Arms.{past_end}

get_d_take : (xs : List ℕ) (n k : ℕ) → k < n → get_or (take n xs) k 0 ≡ get_or xs k 0
get_d_take xs zero k h = absurd (not-suc-le-zero h)
get_d_take [] (suc n) k h = refl
get_d_take (x ∷ xs) (suc n) zero h = refl
get_d_take (x ∷ xs) (suc n) (suc k) h = get_d_take xs n k (le_of_suc-le-suc h)

-- The row q of a table.
abbrev pub row : List ℕ → ℕ → List ℕ
row xs q = take 26 (drop (q * 26) xs)

pub row_entry : (xs : List ℕ) (q i : ℕ) → i / 26 ≡ q → get_or (row xs q) (i % 26) 0 ≡ get_or xs i 0
row_entry xs q i e =
    get_d_take (drop (q * 26) xs) 26 (i % 26) (omega arith)
    ∙ get_or-drop (q * 26) xs (i % 26) 0
    ∙ ap (λ (z : ℕ). get_or xs z 0) (omega arith)

-- Past the last of n rows there is no entry.
pub past_rows : (n : ℕ) (xs : List ℕ) (i : ℕ) → length xs ≤ n * 26 → n ≤ i / 26 → 0 ≡ get_or xs i 0
past_rows n xs i l h = past_end 0 xs i (omega (arith, l, h))
