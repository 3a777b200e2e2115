-- `journal_trial_unknown` has the words of the answer written.
-- Assumes nothing.
use mathlib.Core.Path.{ap, ◌∙◌}
use Rattle.capi.specs.Trial.{words_of_unknown}
use Rattle.capi.proofs.TrialWords.{unknown_words_lem}
use Rattle.capi.proofs.trial.journal_trial_unknown.Goals as goal

pub returns : goal.returns
returns c = c.put_unknown.ensures ∙ ap words_of_unknown c.try_unknown-u.ensures ∙ unknown_words_lem _
