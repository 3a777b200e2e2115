-- What an append comes to that may be handed an index, in the words of the journal's definitions.
-- The contracts of the public functions cite it.
use Rattle.std.specs.Prelude.{ℕ, List, Bool, true, false, Result}
use Rattle.std.proofs.Math.Option.{Option, none, some}
use Rattle.journal_spec.specs.Request.{Outcome}
use Rattle.journal.specs.Answers.{outcome_with}
use Rattle.journal.specs.declared.AppendError.{AppendError}

-- an index's buffer, where one is handed
unfoldable pub handed : Bool → List ℕ → Option (List ℕ)
handed true b = some b
handed false b = none

-- what an append comes to where one is
abbrev pub indexed_outcome : ℕ → Result ℕ AppendError → List ℕ → List ℕ → Outcome
indexed_outcome len r slice index = outcome_with len r slice (some index)
