-- `journal_mark` hands on what `mark` answers, in words.
-- Assumes nothing.
use Rattle.capi.proofs.journals.journal_mark.Goals as goal

pub returns : goal.returns
returns c = rw (← c.mark-m.ensures) c.mark_word.ensures
