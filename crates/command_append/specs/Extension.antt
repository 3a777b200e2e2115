-- The part of a slice that an append writes (document 01, Volume): where it extends the journal, the offered record whole, from the committed
-- length to the new length; where it is declined or the journal is damaged, no byte.
use Rattle.std.specs.Prelude.{◌≡◌, ℕ, ◌-◌, List, [], Result, Ok, Err, take, drop}
use Rattle.std.proofs.Math.Option as Math
use Rattle.journal_spec.specs.Record.{record_bytes}
use Rattle.journal_spec.specs.Profile.{Rule}
use Rattle.journal_spec.specs.Scan.{ScanResult, whole, torn, damaged, scan_of}
use Rattle.journal_spec.specs.Request.{all, Request, request_of, Offer, AppendResult, extended, declined, Outcome}
use Rattle.journal_spec.specs.Request as Request
use Rattle.journal_spec.specs.Append.{offered, written, append_of}
use Rattle.journal.specs.Answers.{outcome_with}
use Rattle.journal.specs.declared.AppendError.{AppendError}
use Rattle.command_append.specs.declared.extend.Extension.{Extension}

-- the committed length that a scan answers; 0 where the journal is damaged
unfoldable pub committed_in : ScanResult → ℕ
committed_in (whole n committed) = committed
committed_in (torn n committed) = committed
committed_in (damaged n p) = 0

-- where the part starts, by the scan and the append's answer: at the committed length; at 0 where nothing is written
unfoldable pub start_in : ScanResult → AppendResult → ℕ
start_in s (extended n) = committed_in s
start_in s (declined n) = 0
start_in s (Request.declined_at n p) = 0
start_in s (Request.damaged n p) = 0

-- where it ends: at the new length; at 0 where nothing is written
unfoldable pub end_in : AppendResult → ℕ
end_in (extended n) = n
end_in (declined n) = 0
end_in (Request.declined_at n p) = 0
end_in (Request.damaged n p) = 0

-- its bytes: the offered record's; none where nothing is written
unfoldable pub part_in : Offer → AppendResult → List ℕ
part_in o (extended n) = record_bytes (offered o)
part_in o (declined n) = []
part_in o (Request.declined_at n p) = []
part_in o (Request.damaged n p) = []

-- the request of all of an offered record by a rule, with an index or none, and what an append of it comes to
abbrev pub all_of : Rule → Offer → Math.Option (List ℕ) → Request
all_of rule o index = request_of o.day o.name o.chances (Request.times o.times) all rule index

abbrev pub append_all : List ℕ → ℕ → Rule → Offer → Math.Option (List ℕ) → Outcome
append_all slice len rule o index = append_of (record { slice = slice; len = len }) (all_of rule o index)

-- where the part that the code answers starts and ends, and what the append answers; both places are 0 where nothing is written
abbrev pub start_of : Result Extension AppendError → ℕ
start_of (Ok part) = part.start
start_of (Err e) = 0

abbrev pub end_of : Result Extension AppendError → ℕ
end_of (Ok part) = part.end
end_of (Err e) = 0

abbrev pub answer_of : Result Extension AppendError → Result ℕ AppendError
answer_of (Ok part) = Ok part.end
answer_of (Err e) = Err e

-- The answer, the slice and the index after it are append's; start and end are those of the written part; the part of the slice after from
-- start to end is the record's bytes, or none; and the slice after is the slice before with these bytes there and no other byte changed.
pub record Extends (slice : List ℕ) (len : ℕ) (rule : Rule) (o : Offer) (index : Math.Option (List ℕ)) (r : Result Extension AppendError)
    (after : List ℕ) (kept : Math.Option (List ℕ)) : Type 0 where
  pub outcome : outcome_with len (answer_of r) after kept ≡ append_all slice len rule o index
  pub starts : start_of r ≡ start_in (scan_of rule slice len) (append_all slice len rule o index).answer
  pub ends : end_of r ≡ end_in (append_all slice len rule o index).answer
  pub part : take (end_of r - start_of r) (drop (start_of r) after) ≡ part_in o (append_all slice len rule o index).answer
  pub rest : after ≡ written slice (start_of r) (part_in o (append_all slice len rule o index).answer)
