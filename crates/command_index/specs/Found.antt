-- What a look-up comes to, by the bytes that stand from an entry's start on: the record of the name at their front, which is judged as a volume of its
-- own, or a fault in it, by its place in the volume; or, where no such record stands there, that the index is not the volume's. And its line.
use Rattle.std.specs.Prelude.{ℕ, ◌+◌, ◌&&◌, List, [], ◌∷◌, Option, Some, None, Result, Ok, Err, cond, leb, nat_le, nat_lt, length, take}
use Rattle.std.specs.Bool.{then_some}
use Rattle.text_digits.specs.Same.{same_bytes}
use Rattle.command_io.specs.declared.ending.Status.{Status}
use Rattle.command_io.specs.declared.ending.Status.TheVariants as S
use Rattle.journal_spec.specs.Profile.{plain}
use Rattle.journal_spec.specs.Refusals.{index_refusal}
use Rattle.journal_spec.specs.Scan.{max_length, ScanResult, whole, torn, damaged, scan_of}
use Rattle.journal_listing.specs.Listing.{word_declined, state_line}
use Rattle.journal_listing.specs.Lines.{start_of, step}
use Rattle.journal_parts.specs.Front.{record_size, record_name}
use Rattle.command_index.specs.Verdict.{numbered}
use Rattle.refusals.specs.Refusals.{number_of}
use Rattle.command_index.specs.declared.found.LookError.{LookError}
use Rattle.command_index.specs.declared.found.LookError.TheVariants as L

-- ---- what stands there

-- the record's size; or that the index has no such name; or that no record of the name stands there; or a fault in it, its number and its place
pub data Found : Type 0 where
  shown : ℕ → Found
  absent : Found
  other : Found
  broken : ℕ → ℕ → Found

-- what each answer means
unfoldable pub found_meaning : Result ℕ LookError → Found
found_meaning (Ok size) = shown size
found_meaning (Err L.Absent) = absent
found_meaning (Err L.Other) = other
found_meaning (Err (L.Damaged f)) = broken (number_of f.refusal) f.place

-- by what the scan of the record alone answers, which stands at a start and has so many bytes
unfoldable pub judged_by : ℕ → ℕ → ScanResult → Found
judged_by start size (whole n committed) = shown size
judged_by start size (torn n committed) = shown size
judged_by start size (damaged n p) = broken n (start + p)

-- the record that is all of some bytes
unfoldable pub judged_alone : ℕ → List ℕ → Found
judged_alone start one = judged_by start (length one) (scan_of plain one (length one))

-- the bytes of the record at the front, by its counts, if it stands whole and has the name
abbrev pub named_size : List ℕ → List ℕ → Option ℕ
named_size name b =
    then_some (nat_lt 0 (record_size b) && nat_le (record_size b) (length b) && same_bytes (record_name b) name) (record_size b)

-- by that number of bytes
unfoldable pub looked_by : ℕ → List ℕ → Option ℕ → Found
looked_by start b (Some size) = judged_alone start (take size b)
looked_by start b None = other

-- what stands of a name at its entry's start; no record starts beyond the longest volume
unfoldable pub looked_at : List ℕ → ℕ → List ℕ → Found
looked_at name start b = cond (leb start max_length) (looked_by start b (named_size name b)) other

-- ---- its line

-- the first line of a record's listing, as a volume of its own
unfoldable pub first_line : List ℕ → List ℕ
first_line one = (step (start_of plain one) one).text

-- the word `refused`, and its number for a name that the index has not
unfoldable pub word_refused : List ℕ
word_refused = 0x72 ∷ 0x65 ∷ 0x66 ∷ 0x75 ∷ 0x73 ∷ 0x65 ∷ 0x64 ∷ []

abbrev pub absent_refusal : ℕ
absent_refusal = 10

-- of the record at the front of some bytes
unfoldable pub looked_line : List ℕ → Found → List ℕ
looked_line b (shown size) = first_line (take size b)
looked_line b absent = numbered word_refused absent_refusal
looked_line b other = numbered word_declined index_refusal
looked_line b (broken n p) = state_line (damaged n p)

-- the exit status that it decides
unfoldable pub looked_status : Found → Status
looked_status (shown size) = S.Done
looked_status absent = S.Refused
looked_status other = S.Refused
looked_status (broken n p) = S.Refused
