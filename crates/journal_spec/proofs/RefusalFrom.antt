-- For code that judges an offered list of numbers from the front: the first refusal from a number on, by that number and the next.
-- Assumes nothing.
use mathlib.Core.Path.{◌≡◌, refl, sym, ap, ◌∙◌}
use Prim.Native.Nat.{ℕ, zero, suc, ◌-◌, ◌≤◌, ◌<◌}
use mathlib.Core.List.{List, [], ◌∷◌}
use native.Mathlib.Omega.{arith}
use lib.ListN.{length, take, drop, get_or, drop_of_length-le}
use lib.Seq.{take-suc, drop-cons}
use Rattle.journal_spec.specs.Refusals.{first_of}
use Rattle.journal_spec.specs.Record.{last_chance}
use Rattle.journal_spec.specs.Section.{items_refusal}

-- the first refusal of the numbers from the i-th on, by those before it
unfoldable pub refusal_from : (List ℕ → ℕ → ℕ) → List ℕ → ℕ → ℕ
refusal_from refusal xs i = items_refusal refusal (take i xs) (drop i xs)

module _ (refusal : List ℕ → ℕ → ℕ) (xs : List ℕ) (i : ℕ) where
  judged : i < length xs
      → refusal_from refusal xs i ≡ first_of (refusal (take i xs) (get_or xs i 0) ∷ refusal_from refusal xs (suc i) ∷ [])
  unfolding refusal_from items_refusal
  judged h = rw (drop-cons xs i 0 h, take-suc xs i 0 h) refl

  -- the i-th number is refused
  pub refuse_this : (n : ℕ) → i < length xs → refusal (take i xs) (get_or xs i 0) ≡ suc n → refusal_from refusal xs i ≡ suc n
  unfolding first_of
  refuse_this n h e = judged h ∙ rw e refl

  -- it is not, and the next ones decide
  pub refuse_later : i < length xs → refusal (take i xs) (get_or xs i 0) ≡ 0 → refusal_from refusal xs i ≡ refusal_from refusal xs (suc i)
  refuse_later h e = judged h ∙ alone (refusal (take i xs) (get_or xs i 0)) (refusal_from refusal xs (suc i)) e
    where
      alone : (a b : ℕ) → a ≡ 0 → first_of (a ∷ b ∷ []) ≡ b
      alone a zero e = unfold first_of in rw e refl
      alone a (suc b) e = unfold first_of in rw e refl

  -- there is none left
  pub refuse_none : length xs ≤ i → refusal_from refusal xs i ≡ 0
  unfolding refusal_from items_refusal
  refuse_none h = rw (drop_of_length-le xs {i = i} h) refl

-- the last of some chances, by its place
pub last_at : (xs : List ℕ) → last_chance xs ≡ get_or xs (length xs - 1) 0
unfolding last_chance
last_at [] = refl
last_at (x ∷ []) = refl
last_at (x ∷ y ∷ xs) =
    let n : length (x ∷ y ∷ xs) - 1 ≡ suc (length (y ∷ xs) - 1) = omega arith in
    last_at (y ∷ xs) ∙ sym (ap (λ (i : ℕ). get_or (x ∷ y ∷ xs) i 0) n)
