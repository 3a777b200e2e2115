-- Requests 2026-08 and 2026-12: whether a buffer begins with a journal's index; it declines as scan does, then by 14.
-- Bytes behind the index are not judged.
use Rattle.std.specs.Prelude.{ℕ, List, cond}
use Rattle.journal_spec.specs.Refusals.{index_refusal}
use Rattle.journal_spec.specs.Profile.{plain}
use Rattle.journal_spec.specs.Scan.{Contents, standing, faulty, contents_of}
use Rattle.journal_spec.specs.Index.{index_bytes, in_front, index_of}
use Rattle.journal_spec.specs.Request.{Journal}

-- the buffer begins with the journal's index; declined by a number; or damaged, with a fault's number and place
pub data IndexCheck : Type 0 where
  own : IndexCheck
  declined : ℕ → IndexCheck
  damaged : ℕ → ℕ → IndexCheck

-- by what the journal holds: faults first
unfoldable pub check_from : Contents → List ℕ → IndexCheck
check_from (faulty n p) b = damaged n p
check_from (standing ps committed) b = cond (in_front (index_bytes (index_of ps)) b) own (declined index_refusal)

-- whether a buffer begins with a journal's index
unfoldable pub check_index_of : Journal → List ℕ → IndexCheck
check_index_of j b = check_from (contents_of plain j.slice j.len) b
