-- The answers of a trial as the C interface gives them: twelve words for an entry of the index, three for unknown names.
-- The first says which case it is, the others hold its numbers, 0 where there is none.
use Rattle.std.specs.Prelude.{ℕ, length, get_or, Result, Ok, Err}
use Rattle.std.specs.Option.{unwrap_or}
use mathlib.Core.List.{List, [], ◌∷◌, ◌++◌, replicate}
use Rattle.journal_trial_spec.specs.Trial.{Lowest, no_chance, chance, Refusal, declined_at, damaged, declined, TrialResult, tried, untried}
use Rattle.journal_trial_spec.specs.Trial.{UnknownResult, unknown, uncounted}
use Rattle.journal_trial.specs.Counting.{eight}
use Rattle.journal_trial.specs.Answers.{padded}
use Rattle.journal_trial.specs.declared.answer.Trial.{Trial}

-- 1 where it is declined, 2 where the journal is damaged, 3 where a line of the log is refused; with the number, and the place if it has one
unfoldable pub refusal_words : Refusal → List ℕ
refusal_words (declined n) = 1 ∷ n ∷ 0 ∷ []
refusal_words (damaged n p) = 2 ∷ n ∷ p ∷ []
refusal_words (declined_at n p) = 3 ∷ n ∷ p ∷ []

-- the lowest chance that was exceeded, 0 where none was
unfoldable pub lowest_word : Lowest → ℕ
lowest_word no_chance = 0
lowest_word (chance c) = c

-- 0, the links, how many chances there are, the lowest that was exceeded or 0, and the overs by chance, 0 where there is none
unfoldable pub trial_words : TrialResult → List ℕ
trial_words (tried t) = 0 ∷ t.links ∷ length t.overs ∷ lowest_word t.lowest ∷ padded t.overs
trial_words (untried r) = refusal_words r ++ replicate 9 0

-- 0 and the lines
unfoldable pub unknown_words : UnknownResult → List ℕ
unknown_words (unknown n) = 0 ∷ n ∷ 0 ∷ []
unknown_words (uncounted r) = refusal_words r

-- ---- of the code's answers

unfoldable pub words_of : Result Trial Refusal → List ℕ
words_of (Ok t) = 0 ∷ t.links ∷ t.chances ∷ unwrap_or t.lowest 0 ∷ eight (λ j. get_or t.overs j 0)
words_of (Err r) = refusal_words r ++ replicate 9 0

unfoldable pub words_of_unknown : Result ℕ Refusal → List ℕ
words_of_unknown (Ok n) = 0 ∷ n ∷ 0 ∷ []
words_of_unknown (Err r) = refusal_words r
