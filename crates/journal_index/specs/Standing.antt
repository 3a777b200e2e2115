-- Records that stand at a slice's front, and their index, as the private functions have them.
-- Assumes nothing.
use Rattle.std.specs.Prelude.{◌≡◌, ℕ, ◌≤◌, List, length, take}
use Rattle.journal_spec.specs.Record.{Last, last_of}
use Rattle.journal_spec.specs.Scan.{Placed}
use Rattle.journal_spec.specs.Cursor.{records_in}
use Rattle.journal_spec.specs.Index.{IndexEntry, index_of}
use Rattle.journal_spec.specs.Request.{AppendResult, extended, declined, declined_at, damaged}
use Rattle.journal_spec.proofs.Places.{placed_from}
use Rattle.journal_spec.proofs.Whole.{WholeBytes}

-- the records of bytes in their places, and their index
abbrev pub placed_in : List ℕ → List Placed
placed_in b = placed_from 0 (records_in b)

unfoldable pub index_in : List ℕ → List IndexEntry
index_in b = index_of (placed_in b)

-- the first bytes of the slice, to the committed length, are records end to end, with `last` the last of them
pub record Stands (slice : List ℕ) (committed : ℕ) (last : Last) : Type 0 where
  pub fits : committed ≤ length slice
  pub whole : WholeBytes (take committed slice)
  pub ends : last ≡ last_of (records_in (take committed slice))

-- the number by which an answer declines, 0 where it does not
unfoldable pub refusal_in : AppendResult → ℕ
refusal_in (extended n) = 0
refusal_in (declined n) = n
refusal_in (declined_at n p) = 0
refusal_in (damaged n p) = 0
