-- The entries of the records at some places.
-- Assumes nothing.
use Rattle.std.specs.Prelude.{◌≡◌, ℕ, List, [], ◌∷◌, map, Bool, true, false, ◌&&◌, drop, eqb}
use Rattle.text_digits.specs.Same.{same_bytes}
use Rattle.journal_spec.specs.Index.{IndexEntry}
use Rattle.journal_spec.proofs.Whole.{WholeBytes}
use Rattle.journal_parts.specs.Front.{record_name}
use Rattle.journal_index.specs.Standing.{index_in}

unfoldable pub entry_at : List ℕ → ℕ → IndexEntry
entry_at b at = record { name = record_name (drop at b); start = at }

unfoldable pub entries_of : List ℕ → List ℕ → List IndexEntry
entries_of b ps = map (entry_at b) ps

-- whether two lists have the same entries
unfoldable pub same_entries : List IndexEntry → List IndexEntry → Bool
same_entries [] [] = true
same_entries [] (f ∷ fs) = false
same_entries (e ∷ es) [] = false
same_entries (e ∷ es) (f ∷ fs) = (same_bytes e.name f.name && eqb e.start f.start) && same_entries es fs

-- the places of the records that a whole journal's index names, in its order
pub record Named (b ps : List ℕ) : Type 0 where
  pub whole : WholeBytes b
  pub is : entries_of b ps ≡ index_in b
