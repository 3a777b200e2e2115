-- The places of a journal's records: where each starts.
-- Assumes nothing.
use Rattle.std.specs.Prelude.{ℕ, ◌+◌, List, [], ◌∷◌, length}
use Rattle.journal_spec.specs.Record.{Record, record_bytes}
use Rattle.journal_spec.specs.Cursor.{records_in}

-- of records end to end, from the place `at` on
unfoldable pub starts_from : ℕ → List Record → List ℕ
starts_from at [] = []
starts_from at (r ∷ rs) = at ∷ starts_from (at + length (record_bytes r)) rs

-- of all records of some bytes
unfoldable pub starts_in : List ℕ → List ℕ
starts_in b = starts_from 0 (records_in b)

-- as many as a journal can hold
abbrev pub most_records : ℕ
most_records = 1985
