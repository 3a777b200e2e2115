-- `journal_profile_part` hands on what `part_place_by` answers, in words.
-- Assumes nothing.
use Rattle.journal.specs.Handed.{as_rule}
use Rattle.capi.proofs.journals.journal_profile_part.Goals as goal

pub returns : goal.returns
unfolding as_rule
returns c = rw (← c.part_place_by-p.ensures.value) c.put_part.ensures
