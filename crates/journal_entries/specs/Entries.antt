-- The entries of an index in a buffer of any bytes, read by their counts: a u16 count, then entries of a u16 name count, the name and a u32 start.
-- Where an entry does not stand whole in the buffer, the entries end.
use Rattle.std.specs.Prelude.{◌≡◌, ℕ, zero, suc, ◌+◌, List, [], ◌∷◌, cond, length, take, drop, leb}
use Rattle.journal_spec.specs.Bytes.{number_at}
use Rattle.journal_spec.specs.Index.{IndexEntry}

-- ---- the entry at a place

unfoldable pub name_at : List ℕ → ℕ → List ℕ
name_at b at = take (number_at 2 at b) (drop (at + 2) b)

unfoldable pub start_at : List ℕ → ℕ → ℕ
start_at b at = number_at 4 (at + 2 + number_at 2 at b) b

-- the place behind it
unfoldable pub behind_entry : List ℕ → ℕ → ℕ
behind_entry b at = at + number_at 2 at b + 6

-- its size, 0 where it does not stand whole
unfoldable pub size_at : List ℕ → ℕ → ℕ
size_at b at = cond (leb (behind_entry b at) (length b)) (number_at 2 at b + 6) 0

-- its start, 0 where it does not stand whole
unfoldable pub start_in : List ℕ → ℕ → ℕ
start_in b at = cond (leb (behind_entry b at) (length b)) (start_at b at) 0

-- a name and a start are those of the entry that stands whole at a place
pub record EntryIs (b : List ℕ) (at : ℕ) (name : List ℕ) (start : ℕ) : Type 0 where
  pub size : length name + 6 ≡ size_at b at
  pub name_is : name ≡ name_at b at
  pub start_is : start ≡ start_in b at

-- ---- the entries

-- at most n entries from a place on
unfoldable pub entries_from : List ℕ → ℕ → ℕ → List IndexEntry
entries_from b zero at = []
entries_from b (suc n) at =
    cond (leb (behind_entry b at) (length b))
    (record { name = name_at b at; start = start_at b at } ∷ entries_from b n (behind_entry b at))
    []

-- as many as the count says
unfoldable pub entries_in : List ℕ → List IndexEntry
entries_in b = entries_from b (number_at 2 0 b) 2
