-- The merge of two journals into a third buffer (request 2026-09): what it answers, and the third buffer after it.
-- The refusals are a list of rows, in the request's order; the first that holds is the answer, and then nothing is written.
use Rattle.std.specs.Prelude.{ℕ, min, List, [], ◌∷◌, cond, length, leb}
use Rattle.std.proofs.Math.Option.{Option, none, some}
use Rattle.journal_spec.specs.Record.{Record, records_bytes}
use Rattle.journal_spec.specs.Profile.{plain}
use Rattle.journal_spec.specs.Scan.{max_length, ScanResult, whole, torn, scan_of}
use Rattle.journal_spec.specs.Scan as Scan
use Rattle.journal_spec.specs.Refusals.{room_refusal, old_form_refusal}
use Rattle.journal_spec.specs.Cursor.{records_upto}
use Rattle.journal_spec.specs.Append.{written}
use Rattle.journal_spec.specs.Model.{lengths_of}
use Rattle.journal_merge_spec.specs.Records.{merged_of, fall_from}

-- 16: an input ends torn
abbrev pub torn_refusal : ℕ
torn_refusal = 16

-- whose: the first journal's or the second's
pub data Whose : Type 0 where
  of_first : Whose
  of_second : Whose

-- The answer: the result's length; whose fault it is, with its number and place as scan's; or declined, by the papers' number, with whose end is
-- torn (16), with the place in the result of a form 1 after form 2, which is the record's first byte (13), or alone (9).
pub data MergeResult : Type 0 where
  merged : ℕ → MergeResult
  damaged : Whose → ℕ → ℕ → MergeResult
  declined_of : Whose → ℕ → MergeResult
  declined_at : ℕ → ℕ → MergeResult
  declined : ℕ → MergeResult

-- the answer, and the third buffer after the call
pub record MergeOutcome : Type 0 where
  pub answer : MergeResult
  pub buffer : List ℕ

-- ---- what is refused

-- scan's fault
unfoldable pub fault_of : Whose → ScanResult → Option MergeResult
fault_of w (whole n c) = none
fault_of w (torn n c) = none
fault_of w (Scan.damaged n p) = some (damaged w n p)

-- 16
unfoldable pub torn_of : Whose → ScanResult → Option MergeResult
torn_of w (whole n c) = none
torn_of w (torn n c) = some (declined_of w torn_refusal)
torn_of w (Scan.damaged n p) = none

-- 13, at the first such place in the result
unfoldable pub fall_of : List Record → Option MergeResult
fall_of rs = elim (fall_from 0 0 rs) [ none ↦ none | some p ↦ some (declined_at old_form_refusal p) ]

-- 9: the result is longer than the third buffer or the longest journal
unfoldable pub room_of : List ℕ → List Record → Option MergeResult
room_of buffer rs = cond (leb (lengths_of rs) (min (length buffer) max_length)) none (some (declined room_refusal))

-- the request's order, by both scans' answers and the records of the result
unfoldable pub merge_refusals : ScanResult → ScanResult → List Record → List ℕ → List (Option MergeResult)
merge_refusals first second rs buffer =
    fault_of of_first first
    ∷ fault_of of_second second
    ∷ torn_of of_first first
    ∷ torn_of of_second second
    ∷ fall_of rs
    ∷ room_of buffer rs
    ∷ []

-- the first that holds
unfoldable pub first_refusal : List (Option MergeResult) → Option MergeResult
first_refusal [] = none
first_refusal (none ∷ rows) = first_refusal rows
first_refusal (some r ∷ rows) = some r

-- ---- what is answered and written

-- a refusal writes nothing; else the result stands at the buffer's front, and bytes beyond it stay
unfoldable pub settle_merge : Option MergeResult → List Record → List ℕ → MergeOutcome
settle_merge (some answer) rs buffer = record { answer = answer; buffer = buffer }
settle_merge none rs buffer = record { answer = merged (lengths_of rs); buffer = written buffer 0 (records_bytes rs) }

-- by both scans' answers, where rs would be the records of the result
unfoldable pub merge_by : ScanResult → ScanResult → List Record → List ℕ → MergeOutcome
merge_by first second rs buffer = settle_merge (first_refusal (merge_refusals first second rs buffer)) rs buffer

-- the merge: of two slices with the journals' lengths in them, and the third buffer
unfoldable pub merge_of : List ℕ → ℕ → List ℕ → ℕ → List ℕ → MergeOutcome
merge_of slice₁ len₁ slice₂ len₂ buffer =
    merge_by (scan_of plain slice₁ len₁) (scan_of plain slice₂ len₂) (merged_of (records_upto slice₁ len₁) (records_upto slice₂ len₂)) buffer
