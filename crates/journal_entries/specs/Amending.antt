-- An index in a buffer, amended by a record; and room made for an entry in it.
-- Assumes nothing.
use Rattle.std.specs.Prelude.{◌≡◌, ℕ, ◌+◌, ◌-◌, List, true, false, cond, Result, is_ok, length, take, drop, leb}
use Rattle.journal_spec.specs.Index.{IndexEntry, index_bytes, amend}
use Rattle.journal_spec.specs.Append.{written}
use Rattle.journal_entries.specs.Entries.{entries_in}
use Rattle.journal_entries.specs.Places.{place_of}
use Rattle.journal_entries.specs.declared.walking.End.{End}

-- the index of a buffer amended
unfoldable pub next_bytes : IndexEntry → List ℕ → List ℕ
next_bytes new b = index_bytes (amend new (entries_in b))

-- it is written where the buffer can hold it; else no byte changes
unfoldable pub amended_in : IndexEntry → List ℕ → List ℕ
amended_in new b = cond (leb (length (next_bytes new b)) (length b)) (written b 0 (next_bytes new b)) b

-- ---- room for an entry

-- Where the name is found nothing changes; else the bytes from its place to the end are moved up by `size`, and there is an entry more.
pub record Opened (b : List ℕ) (f : Result ℕ ℕ) (end : End) (size count : ℕ) (after : List ℕ) : Type 0 where
  pub kept : is_ok f ≡ true → (after ≡ b) × (count ≡ end.count)
  pub moved : is_ok f ≡ false
      → (after ≡ written b (place_of f + size) (take (end.place - place_of f) (drop (place_of f) b))) × (count ≡ end.count + 1)
