-- What the call that begins a report answers and leaves: scan's answer, the index that is made, its entries' number, and the names' width.
-- Definitions only.
use Rattle.std.specs.Prelude.{◌≡◌, ℕ, List, length}
use Rattle.journal_spec.specs.Profile.{plain}
use Rattle.journal_spec.specs.Scan.{scan_of}
use Rattle.journal_spec.specs.MakeIndex.{IndexResult, made, declined, damaged, make_index_of}
use Rattle.journal.specs.Answers.{meaning}
use Rattle.journal_entries.specs.Entries.{entries_in}
use Rattle.journal_report.specs.Report.{width_of}
use Rattle.journal_report.specs.declared.beginning.Begun.{Begun}

-- the entries of the index that is made, none where it is declined
unfoldable pub names_made : IndexResult → List ℕ → ℕ
names_made (made n) index = length (entries_in index)
names_made (declined n) index = 0
names_made (damaged n p) index = 0

-- of the journal that is all of v, with a buffer before and after
pub record Begins (v before after : List ℕ) (r : Begun) : Type 0 where
  pub status : meaning r.status ≡ scan_of plain v (length v)
  pub index : after ≡ (make_index_of (record { slice = v; len = length v }) before).buffer
  pub names : r.names ≡ names_made (make_index_of (record { slice = v; len = length v }) before).answer after
  pub width : r.width ≡ width_of (entries_in after)
