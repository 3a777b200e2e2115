-- Places in an index: behind some entries, and where a name's entry is or would be.
-- Assumes nothing.
use Rattle.std.specs.Prelude.{ℕ, ◌+◌, List, [], ◌∷◌, length, Result, Ok, Err}
use Rattle.journal_spec.specs.Index.{IndexEntry, Order, lower, equal, higher, order_of}
use Rattle.journal_spec.specs.Index.{entries_size}
use Rattle.journal_entries.specs.declared.walking.End.{End}

-- behind entries, with their number
unfoldable pub end_of : List IndexEntry → End
end_of es = record { place = 2 + entries_size es; count = length es }

-- ---- a name found: the place of its entry, or else where it would be

unfoldable pub place_of : Result ℕ ℕ → ℕ
place_of (Ok at) = at
place_of (Err at) = at

-- by how the name stands to that of the entry at a place
unfoldable pub found_by : Order → ℕ → Result ℕ ℕ → Result ℕ ℕ
found_by lower at later = Err at
found_by equal at later = Ok at
found_by higher at later = later

-- the place of the name's entry; or of the first entry above it, or behind the last, where the name has none
unfoldable pub find_in : List ℕ → ℕ → List IndexEntry → Result ℕ ℕ
find_in name at [] = Err at
find_in name at (e ∷ es) = found_by (order_of name e.name) at (find_in name (at + length e.name + 6) es)
