-- `journal_trial` has the words of the answer written.
-- Assumes nothing.
use mathlib.Core.Path.{ap, ◌∙◌}
use Rattle.capi.specs.Trial.{words_of}
use Rattle.capi.proofs.TrialWords.{trial_words_lem}
use Rattle.capi.proofs.trial.journal_trial.Goals as goal

pub returns : goal.returns
returns c = c.put_trial.ensures ∙ ap words_of c.try_entry-t.ensures ∙ trial_words_lem _
