-- What each case of the code's answers is in the merge's definition.
-- Assumes nothing.
use Rattle.std.specs.Prelude.{ℕ, Bool, true, false, List, Result, Ok, Err}
use Rattle.refusals.specs.Refusals.{number_of}
use Rattle.refusals.specs.declared.Refusal.TheVariants.{Torn}
use Rattle.journal.specs.declared.Status.{Status}
use Rattle.journal.specs.declared.Status.TheVariants as J
use Rattle.journal_merge_spec.specs.Merge.{Whose, of_first, of_second, MergeResult, merged, damaged, declined_of, declined_at, declined, MergeOutcome}
use Rattle.journal_merge.specs.declared.Whose as W
use Rattle.journal_merge.specs.declared.Whose.TheVariants as WV
use Rattle.journal_merge.specs.declared.MergeError.{MergeError}
use Rattle.journal_merge.specs.declared.MergeError.TheVariants as E

unfoldable pub whose_of : W.Whose → Whose
whose_of WV.First = of_first
whose_of WV.Second = of_second

unfoldable pub answer_of : Result ℕ MergeError → MergeResult
answer_of (Ok n) = merged n
answer_of (Err (E.Damaged w f)) = damaged (whose_of w) (number_of f.refusal) f.place
answer_of (Err (E.DeclinedOf w r)) = declined_of (whose_of w) (number_of r)
answer_of (Err (E.DeclinedAt f)) = declined_at (number_of f.refusal) f.place
answer_of (Err (E.Declined r)) = declined (number_of r)

-- with the third buffer after the call
unfoldable pub outcome_of : Result ℕ MergeError → List ℕ → MergeOutcome
outcome_of r buffer = record { answer = answer_of r; buffer = buffer }

-- ---- what both scans say

-- whether one ends torn, or its fault
unfoldable pub is_torn : Status → W.Whose → Result Bool MergeError
is_torn (J.Whole n c) whose = Ok false
is_torn (J.Torn n c) whose = Ok true
is_torn (J.Damaged f) whose = Err (E.Damaged whose f)

abbrev pub torn_end : W.Whose → MergeError
torn_end whose = E.DeclinedOf whose Torn

unfoldable pub inputs_by : Result Bool MergeError → Result Bool MergeError → Result (Unit {0}) MergeError
inputs_by (Err e) y = Err e
inputs_by (Ok t) (Err e) = Err e
inputs_by (Ok true) (Ok u) = Err (torn_end WV.First)
inputs_by (Ok false) (Ok true) = Err (torn_end WV.Second)
inputs_by (Ok false) (Ok false) = Ok tt

unfoldable pub inputs_of : Status → Status → Result (Unit {0}) MergeError
inputs_of x y = inputs_by (is_torn x WV.First) (is_torn y WV.Second)
