-- An append's outcome told by the slice after it, the index's buffer and the three words of its answer.
-- Assumes nothing.
use mathlib.Core.Path.{◌≡◌, refl, ap, ◌∙◌}
use Prim.Native.Nat.{ℕ, ◌%◌}
use mathlib.Core.List.{List}
use mathlib.Core.Bool.{Bool, true, false}
use lib.Dec.{eqb}
use Rattle.journal_spec.specs.Request.{Journal, up_to, Source, Outcome, request_of}
use Rattle.journal_spec.specs.Append.{append_of}
use Rattle.std.proofs.Common.{Result}
use Rattle.journal.specs.declared.AppendError.{AppendError}
use Rattle.journal.specs.declared.extend.Asked.{Asked}
use Rattle.journal.specs.Handed.{as_budget, as_rule, request_by}
use Rattle.journal.specs.Answers.{append_meaning, outcome_with, outcome_of}
use Rattle.journal_index.specs.Outcome.{handed}
use Rattle.capi.specs.Append.{append_words, rule_of, handed_by, left_in}

pub outcome_told : (len : ℕ) (r : Result ℕ AppendError) (slice words : List ℕ) (o : Outcome) → outcome_of len r slice ≡ o → words ≡ append_words (append_meaning r)
    → (slice ≡ o.journal.slice) × (words ≡ append_words o.answer)
unfolding outcome_with
outcome_told len r slice words o e put = (ap (λ (x : Outcome). x.journal.slice) e, put ∙ ap (λ (x : Outcome). append_words x.answer) e)

-- ---- by options

-- a buffer that stays where no index is handed is what the outcome leaves in it
left_by : (t : Bool) (after b : List ℕ) → (t ≡ false → after ≡ b) → after ≡ left_in b (handed t after)
unfolding left_in handed
left_by true after b stays = refl
left_by false after b stays = stays refl

module _ (j : Journal) (name chances : List ℕ) (source : Source) (a : Asked) (day budget options : ℕ)
    (is : (a.day ≡ day) × (as_budget a.budget ≡ up_to budget) × (as_rule a.rule ≡ rule_of options)) (r : Result ℕ AppendError)
    (slice after b words : List ℕ) where
  -- what the call comes to
  abbrev came : Outcome
  came = append_of j (request_of day name chances source (up_to budget) (rule_of options) (handed_by options b))

  pub beside_told : outcome_with j.len r slice (handed_by options after) ≡ append_of j (request_by a name chances source (handed_by options b))
      → (eqb (options % 2) 1 ≡ false → after ≡ b) → words ≡ append_words (append_meaning r)
      → (slice ≡ came.journal.slice) × ((after ≡ left_in b came.index) × (words ≡ append_words came.answer))
  unfolding outcome_with
  beside_told e stays put =
      let o : outcome_with j.len r slice (handed_by options after) ≡ came = rw (is.0, is.1, is.2) at e in (
        ap (λ (x : Outcome). x.journal.slice) o,
        (left_by (eqb (options % 2) 1) after b stays ∙ ap (λ (x : Outcome). left_in b x.index) o, put ∙ ap (λ (x : Outcome). append_words x.answer) o),
      )
