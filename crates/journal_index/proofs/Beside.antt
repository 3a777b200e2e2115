-- An append by whether an index is handed: with it, or without one, and then its buffer is as it was.
-- Assumes nothing.
use mathlib.Core.Path.{◌≡◌, refl}
use Prim.Native.Nat.{ℕ}
use mathlib.Core.List.{List}
use mathlib.Core.Bool.{Bool, true, false}
use mathlib.Core.Option.{none, some}
use Rattle.facts.proofs.Tests.{not_both}
use Rattle.journal_spec.specs.Profile.{Rule}
use Rattle.journal_spec.specs.Request.{Journal, Budget, Source, request_of}
use Rattle.journal_spec.specs.Append.{append_of}
use Rattle.std.specs.Prelude.{Result}
use Rattle.journal.specs.declared.AppendError.{AppendError}
use Rattle.journal.specs.Answers.{outcome_with, outcome_of}
use Rattle.journal_index.specs.Outcome.{handed, indexed_outcome}

module _ (indexed : Bool) (len : ℕ) (r : Result ℕ AppendError) (after : List ℕ) (j : Journal) (day : ℕ) (name chances : List ℕ) (source : Source)
    (budget : Budget) (rule : Rule) (index : List ℕ) where
  -- what is to be shown, with the buffer b after the call
  abbrev Beside : List ℕ → Type 0
  Beside b =
      (outcome_with len r after (handed indexed b) ≡ append_of j (request_of day name chances source budget rule (handed indexed index)))
      × (indexed ≡ false → b ≡ index)

  pub with_index : indexed ≡ true → (left : List ℕ) → indexed_outcome len r after left ≡ append_of j (request_of day name chances source budget rule (some index)) → Beside left
  unfolding handed
  with_index t left e = (rw t e, λ unset. not_both _ t unset)

  pub without_index : indexed ≡ false → outcome_of len r after ≡ append_of j (request_of day name chances source budget rule none) → Beside index
  unfolding handed
  without_index t e = (rw t e, λ unset. refl)
