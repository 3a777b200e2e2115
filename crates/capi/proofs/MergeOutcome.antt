-- A merge's outcome told by the third buffer after it and the four words of its answer.
-- Assumes nothing.
use mathlib.Core.Path.{◌≡◌, ap, ◌∙◌}
use Prim.Native.Nat.{ℕ}
use mathlib.Core.List.{List}
use Rattle.journal_merge_spec.specs.Merge.{MergeOutcome}
use Rattle.std.proofs.Common.{Result}
use Rattle.journal_merge.specs.declared.MergeError.{MergeError}
use Rattle.journal_merge.specs.Answers.{answer_of, outcome_of}
use Rattle.capi.specs.Merge.{merge_words}

pub merge_told : (r : Result ℕ MergeError) (buffer words : List ℕ) (o : MergeOutcome) → outcome_of r buffer ≡ o → words ≡ merge_words (answer_of r)
    → (buffer ≡ o.buffer) × (words ≡ merge_words o.answer)
unfolding outcome_of
merge_told r buffer words o e put = (ap (λ (x : MergeOutcome). x.buffer) e, put ∙ ap (λ (x : MergeOutcome). merge_words x.answer) e)
