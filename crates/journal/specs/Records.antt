-- What the reading of a record answers, by what the record's reader finds: the place after it, its form and day, of its times what the
-- mark needs, and whether it is one of the profile's.
use Rattle.std.specs.Prelude.{◌≡◌, ℕ, ◌+◌, ◌*◌, ◌<◌, List, length, get_or, drop, Result}
use Rattle.journal_spec.specs.Bytes.{number_at}
use Rattle.journal_spec.specs.Reader.{Found, run}
use Rattle.journal_spec.specs.Record.{Record, Last, record_reader}
use Rattle.journal_spec.specs.Profile.{in_profile}
use Rattle.journal_spec.specs.Scan as Scan
use Rattle.journal_spec.specs.Read.{are_equal}
use Rattle.journal.specs.Handed.{as_rule}
use Rattle.journal.specs.declared.profile.Rule.{Rule}
use Rattle.journal.specs.declared.record.Head.{Head}
use Rattle.journal.specs.declared.record.Entry.{Entry}
use Rattle.journal.specs.Told.{Stopped, kept_of}

-- the record before, as the record's reader knows it
unfoldable pub as_last : Head → Last
as_last h = record { form = h.form; day = h.day }

-- what is kept of a record
unfoldable pub entry_of : Record → ℕ → Entry
entry_of r next = record {
  next = next;
  form = r.form;
  day = r.day;
  flat = are_equal r.times;
  times = length r.times;
  in_profile = in_profile r;
}

-- the answer
abbrev pub record_read : Found Record → Result Entry Stopped
record_read = kept_of entry_of

-- the record at a place, after the record `last`
unfoldable pub record_at : Head → ℕ → List ℕ → Result Entry Stopped
record_at last at b = record_read (run (record_reader (as_last last)) at (drop at b))

-- the same by a rule
unfoldable pub record_by : Rule → Head → ℕ → List ℕ → Result Entry Stopped
record_by rule last at b = record_read (Scan.record_at (as_rule rule) (as_last last) at (drop at b))

-- n numbers of 4 bytes that stand from a place on, as chances that were read do
pub record Stands (b : List ℕ) (at n : ℕ) (xs : List ℕ) : Type 0 where
  pub count : length xs ≡ n
  pub numbers : (i : ℕ) → i < n → get_or xs i 0 ≡ number_at 4 (at + i * 4) b
