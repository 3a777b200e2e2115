-- The words of the code's answers are those of the definition's.
-- Assumes nothing.
use mathlib.Core.Path.{◌≡◌, refl, ap}
use Prim.Native.Nat.{ℕ}
use mathlib.Core.List.{◌∷◌}
use lib.ListN.{length}
use Rattle.std.specs.Option.{unwrap_or}
use Rattle.journal_trial_spec.specs.Trial.{Lowest, no_chance, chance, TrialResult, tried, untried, UnknownResult, unknown, uncounted}
use Rattle.journal_trial.specs.Counting.{eight}
use Rattle.journal_trial.specs.Answers.{padded, lowest_told, answered_by}
use Rattle.journal_trial.specs.Strangers.{unknown_by}
use Rattle.capi.specs.Trial.{lowest_word, trial_words, unknown_words, words_of, words_of_unknown}

lowest_same : (l : Lowest) → unwrap_or (lowest_told l) 0 ≡ lowest_word l
unfolding lowest_told lowest_word
lowest_same no_chance = refl
lowest_same (chance c) = refl

pub trial_words_lem : (r : TrialResult) → words_of (answered_by r) ≡ trial_words r
unfolding words_of answered_by trial_words padded eight
trial_words_lem (tried t) = ap (λ (n : ℕ). 0 ∷ t.links ∷ length t.overs ∷ n ∷ padded t.overs) (lowest_same t.lowest)
trial_words_lem (untried r) = refl

pub unknown_words_lem : (r : UnknownResult) → words_of_unknown (unknown_by r) ≡ unknown_words r
unfolding words_of_unknown unknown_by unknown_words
unknown_words_lem (unknown n) = refl
unknown_words_lem (uncounted r) = refl
