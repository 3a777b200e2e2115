-- Whether bytes are an index or the first bytes of one (request 2026-08), so that a file of them may be written over: a count, entries in range
-- with names that rise strictly, the last perhaps cut, and nothing behind as many as the count says.
use Rattle.std.specs.Prelude.{ℕ, zero, suc, List, [], Bool, ◌&&◌, ◌||◌, length, leb, ltb}
use Rattle.limit.specs.Times.{in_range}
use Rattle.journal_spec.specs.Bytes.{number_at}
use Rattle.journal_spec.specs.Record.{min_name, max_name, min_byte, max_byte}
use Rattle.journal_spec.specs.Scan.{max_length}
use Rattle.journal_spec.specs.Tests.{each}
use Rattle.journal_entries.specs.Entries.{name_at, start_at, behind_entry}
use Rattle.journal_entries.specs.Shape.{is_below}

-- the most bytes of a volume's index: 1,024 records of 64 bytes, each of another name of 32 bytes
abbrev pub max_index : ℕ
max_index = 38_914

-- the most entries: a record has 33 bytes or more
abbrev pub max_entries : ℕ
max_entries = 1_985

-- the entry at a place is in range, as far as it stands: its name's count, the name's bytes, and the start. What is cut off of a number is 0.
unfoldable pub entry_ranges : List ℕ → ℕ → Bool
entry_ranges b at =
    in_range min_name max_name (number_at 2 at b) && (each (in_range min_byte max_byte) (name_at b at) && ltb (start_at b at) max_length)

-- the bytes end at a place, or an entry stands there, cut or with others behind it, at most n in all; whole ones rise from a name on
unfoldable pub begun_from : List ℕ → ℕ → ℕ → List ℕ → Bool
begun_from b zero at low = leb (length b) at
begun_from b (suc n) at low =
    leb (length b) at
    || (entry_ranges b at
    && (ltb (length b) (behind_entry b at) || (is_below low (name_at b at) && begun_from b n (behind_entry b at) (name_at b at))))

-- an index or the first bytes of one
unfoldable pub is_begun : List ℕ → Bool
is_begun b = leb (length b) max_index && (leb (number_at 2 0 b) max_entries && begun_from b (number_at 2 0 b) 2 [])
