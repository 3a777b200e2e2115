-- `part_place` is `part_place_by` by the plain rule.
-- Assumes nothing.
use Rattle.journal.specs.Handed.{as_rule}
use Rattle.journal.proofs.part_place.Goals as goal

pub returns : goal.returns
unfolding as_rule
returns c = record { place = c.part_place_by.ensures.place; value = c.part_place_by.ensures.value }
