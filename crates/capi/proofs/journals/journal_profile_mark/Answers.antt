-- `journal_profile_mark` hands on what `mark_by` answers, in words.
-- Assumes nothing.
use Rattle.journal.specs.Handed.{as_rule}
use Rattle.capi.proofs.journals.journal_profile_mark.Goals as goal

pub returns : goal.returns
unfolding as_rule
returns c = rw (← c.mark_by-m.ensures) c.mark_word.ensures
