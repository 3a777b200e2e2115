-- `journal_part` hands on what `part_place` answers, in words.
-- Assumes nothing.
use Rattle.capi.proofs.journals.journal_part.Goals as goal

pub returns : goal.returns
returns c = rw (← c.part_place-p.ensures.value) c.put_part.ensures
