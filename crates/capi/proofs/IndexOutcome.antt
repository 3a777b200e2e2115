-- What making an index comes to, told by the buffer after it and the three words of its answer.
-- Assumes nothing.
use mathlib.Core.Path.{◌≡◌, ap, ◌∙◌}
use Prim.Native.Nat.{ℕ}
use mathlib.Core.List.{List}
use Rattle.journal_spec.specs.MakeIndex.{Made}
use Rattle.std.proofs.Common.{Result}
use Rattle.journal_index.specs.declared.IndexError.{IndexError}
use Rattle.journal_index.specs.Made.{made_meaning, made_outcome}
use Rattle.capi.specs.Index.{index_words}

pub made_told : (r : Result ℕ IndexError) (buffer words : List ℕ) (o : Made) → made_outcome r buffer ≡ o → words ≡ index_words (made_meaning r)
    → (buffer ≡ o.buffer) × (words ≡ index_words o.answer)
unfolding made_outcome
made_told r buffer words o e put = (ap (λ (x : Made). x.buffer) e, put ∙ ap (λ (x : Made). index_words x.answer) e)
