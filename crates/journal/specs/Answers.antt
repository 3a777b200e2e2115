-- What the public functions answer, in document 01's words: its word, number and values for each case.
-- The contracts of the public functions cite these.
use Rattle.std.specs.Prelude.{ℕ, List, Option, Some, None, Result, Ok, Err}
use Rattle.std.proofs.Math.Option.{none}
use Rattle.std.proofs.Math.Option as Math
use Rattle.refusals.specs.declared.Refusal.{Refusal}
use Rattle.refusals.specs.Refusals.{number_of}
use Rattle.journal_spec.specs.Scan.{ScanResult, whole, torn, damaged}
use Rattle.journal_spec.specs.Read.{no_part, flat, few, normal, MarkResult, marked, unmarked}
use Rattle.journal_spec.specs.Read as Read
use Rattle.journal_spec.specs.Request.{AppendResult, extended, declined, declined_at, Outcome}
use Rattle.journal_spec.specs.Request as Request
use Rattle.journal.specs.declared.Status.{Status}
use Rattle.journal.specs.declared.Status.TheVariants as S
use Rattle.journal.specs.declared.Part.{Part}
use Rattle.journal.specs.declared.marks.Mark.{Mark}
use Rattle.journal.specs.declared.marks.Mark.TheVariants as K
use Rattle.journal.specs.declared.AppendError.{AppendError}
use Rattle.journal.specs.declared.AppendError.TheVariants as A

-- document 01's answer of a survey for each case of scan's
unfoldable pub meaning : Status → ScanResult
meaning (S.Whole records committed) = whole records committed
meaning (S.Torn records committed) = torn records committed
meaning (S.Damaged f) = damaged (number_of f.refusal) f.place

-- a part of the slice
unfoldable pub part_meaning : Part → Read.Part
part_meaning p = record { start = p.start; size = p.size }

-- the same, empty where there is none
unfoldable pub place_meaning : Option Part → Read.Part
place_meaning (Some p) = part_meaning p
place_meaning None = no_part

-- document 01's mark for each case
unfoldable pub as_mark : Mark → Read.Mark
as_mark K.Flat = flat
as_mark K.Few = few
as_mark K.Normal = normal

-- document 01's mark, or the refusal's number, for each case of the mark's answer
unfoldable pub mark_meaning : Result Mark Refusal → MarkResult
mark_meaning (Ok mark) = marked (as_mark mark)
mark_meaning (Err r) = unmarked (number_of r)

-- document 01's answer of an append for each case, and request 2026-01's for a line of the log
unfoldable pub append_meaning : Result ℕ AppendError → AppendResult
append_meaning (Ok n) = extended n
append_meaning (Err (A.Declined r)) = declined (number_of r)
append_meaning (Err (A.DeclinedAt f)) = declined_at (number_of f.refusal) f.place
append_meaning (Err (A.Damaged f)) = Request.damaged (number_of f.refusal) f.place

-- the journal's length after an append that found the length `len`: what is answered, and else it stays
unfoldable pub length_after : ℕ → Result ℕ AppendError → ℕ
length_after len (Ok n) = n
length_after len (Err e) = len

-- all that an append comes to, from the length before it, its answer, the slice's bytes after it, and the index's buffer where one is handed
unfoldable pub outcome_with : ℕ → Result ℕ AppendError → List ℕ → Math.Option (List ℕ) → Outcome
outcome_with len r slice index = record { answer = append_meaning r; journal = record { slice = slice; len = length_after len r }; index = index }

-- without an index
abbrev pub outcome_of : ℕ → Result ℕ AppendError → List ℕ → Outcome
outcome_of len r slice = outcome_with len r slice none
