-- A test that antt computes at each entry of a table, and what it shows of the entry at a place. Assumes nothing.
use Rattle.std.proofs.Common.{ℕ, zero, suc, ◌+◌, ◌<◌, Bool, true, not, ◌&&◌, T, List, [], ◌∷◌, length, get_or, le_of_suc-le-suc, not-suc-le-zero, add-zero, add-suc, suc-add, zero-add}
use lib.Ieee.{binary64, nan_bits}
use lib.Ieee.Fits.{and_l, and_r}

-- b is the pattern of a number.
abbrev pub Plain : ℕ → Type 0
Plain b = T (not (nan_bits binary64 b))

-- No pattern of the table is a NaN's.
abbrev pub plain : List ℕ → Bool
plain [] = true
plain (b ∷ bs) = not (nan_bits binary64 b) && plain bs

-- Each entry of such a table, and the 0 past its end, is the pattern of a number.
pub plain_at : (t : List ℕ) → T (plain t) → (i : ℕ) → Plain (get_or t i 0)
unfolding nan_bits
plain_at [] h i = tt
plain_at (b ∷ bs) h zero = and_l (not (nan_bits binary64 b)) _ h
plain_at (b ∷ bs) h (suc i) = plain_at bs (and_r (not (nan_bits binary64 b)) _ h) i

-- The test f passes at each entry and its place, counted from i.
abbrev pub every : (ℕ → ℕ → Bool) → ℕ → List ℕ → Bool
every f i [] = true
every f i (x ∷ xs) = f i x && every f (suc i) xs

every_from : (f : ℕ → ℕ → Bool) (xs : List ℕ) (i : ℕ) → T (every f i xs) → (k : ℕ) → k < length xs → T (f (i + k) (get_or xs k 0))
every_from f [] i t k h = absurd (not-suc-le-zero h)
every_from f (x ∷ xs) i t zero h = rw add-zero (and_l (f i x) (every f (suc i) xs) t)
every_from f (x ∷ xs) i t (suc k) h =
    rw (add-suc, ← suc-add) (every_from f xs (suc i) (and_r (f i x) (every f (suc i) xs) t) k (le_of_suc-le-suc h))

-- So it passes at the place k.
pub every_at : (f : ℕ → ℕ → Bool) (xs : List ℕ) → T (every f 0 xs) → (k : ℕ) → k < length xs → T (f k (get_or xs k 0))
every_at f xs t k h = rw zero-add at (every_from f xs 0 t k h)
