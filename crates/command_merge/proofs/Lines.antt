-- The lines that end with whose it is, as the code puts their parts one behind another.
-- Assumes nothing.
use mathlib.Core.Path.{◌≡◌, sym, ap, ◌∙◌}
use Prim.Native.Nat.{ℕ}
use mathlib.Core.List.{List, [], ◌∷◌, ◌++◌, append_assoc}
use Rattle.journal_spec.specs.Log.{space, newline}
use Rattle.journal_listing.specs.Listing.{spaced, line_of}
use Rattle.journal_listing.proofs.Texts.{words_line}

module _ (w n : List ℕ) where
  -- behind a word and a number
  pub whose_line : (x : List ℕ) → w ++ (space ∷ n) ++ (space ∷ (x ++ (newline ∷ []))) ≡ line_of (w ∷ n ∷ x ∷ [])
  whose_line x = sym (append_assoc (w ++ (space ∷ n)) (space ∷ x) (newline ∷ [])) ∙ words_line w n x

  -- behind a word and two
  pub whose_line_2 : (m x : List ℕ) → w ++ (space ∷ n) ++ (space ∷ m) ++ (space ∷ (x ++ (newline ∷ []))) ≡ line_of (w ∷ n ∷ m ∷ x ∷ [])
  unfolding line_of spaced
  whose_line_2 m x =
      sym (append_assoc (w ++ (space ∷ n) ++ (space ∷ m)) (space ∷ x) (newline ∷ []))
      ∙ ap (λ (y : List ℕ). y ++ (newline ∷ []))
      (append_assoc (w ++ (space ∷ n)) (space ∷ m) (space ∷ x) ∙ append_assoc w (space ∷ n) (space ∷ (m ++ (space ∷ x))))
