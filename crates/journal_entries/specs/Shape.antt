-- Whether an index stands at a buffer's front, whichever records it is of: the count and its entries stand in the buffer, and the names rise
-- strictly from the empty one.
use Rattle.std.specs.Prelude.{ℕ, zero, suc, List, [], Bool, true, false, ◌&&◌, length, leb}
use Rattle.journal_spec.specs.Bytes.{number_at}
use Rattle.journal_spec.specs.Index.{Order, lower, equal, higher, order_of}
use Rattle.journal_entries.specs.Entries.{name_at, behind_entry}

-- the first of two names comes before the other, by their order
unfoldable pub is_lower : Order → Bool
is_lower lower = true
is_lower equal = false
is_lower higher = false

unfoldable pub is_below : List ℕ → List ℕ → Bool
is_below low name = is_lower (order_of low name)

-- n entries stand from a place on, and their names rise from one
unfoldable pub stand_from : List ℕ → ℕ → ℕ → List ℕ → Bool
stand_from b zero at low = true
stand_from b (suc n) at low = leb (behind_entry b at) (length b) && (is_below low (name_at b at) && stand_from b n (behind_entry b at) (name_at b at))

-- as many as the count says
unfoldable pub is_index : List ℕ → Bool
is_index b = leb 2 (length b) && stand_from b (number_at 2 0 b) 2 []
