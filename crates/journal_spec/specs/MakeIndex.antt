-- Request 2026-08: an index made afresh, of a journal and into a buffer: it answers its length, or declines as scan does, then by 15.
-- Declined, nothing is written.
use Rattle.std.specs.Prelude.{ℕ, zero, suc, List, length}
use Rattle.journal_spec.specs.Profile.{plain}
use Rattle.journal_spec.specs.Scan.{Contents, standing, faulty, contents_of}
use Rattle.journal_spec.specs.Index.{IndexEntry, index_bytes, index_of}
use Rattle.journal_spec.specs.Request.{Journal}
use Rattle.journal_spec.specs.Append.{written, judge_index_room}

-- its length; declined by a number; or damaged, with a fault's number and place
pub data IndexResult : Type 0 where
  made : ℕ → IndexResult
  declined : ℕ → IndexResult
  damaged : ℕ → ℕ → IndexResult

-- the answer, and the buffer after it
pub record Made : Type 0 where
  pub answer : IndexResult
  pub buffer : List ℕ

-- by the refusal n or none
unfoldable pub make_unless : ℕ → List IndexEntry → List ℕ → Made
make_unless zero es b = record { answer = made (length (index_bytes es)); buffer = written b 0 (index_bytes es) }
make_unless (suc n) es b = record { answer = declined (suc n); buffer = b }

-- by what the journal holds: faults first
unfoldable pub make_from : Contents → List ℕ → Made
make_from (faulty n p) b = record { answer = damaged n p; buffer = b }
make_from (standing ps committed) b = make_unless (judge_index_room (index_of ps) b) (index_of ps) b

-- the index made of a journal into a buffer
unfoldable pub make_index_of : Journal → List ℕ → Made
make_index_of j b = make_from (contents_of plain j.slice j.len) b
