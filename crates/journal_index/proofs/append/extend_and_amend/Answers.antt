-- `extend_and_amend` writes what the append without an index writes, and amends the index where the record is finished.
-- Assumes nothing.
use mathlib.Core.Bool.{not}
use mathlib.Core.Path.{refl, ap}
use Rattle.journal_index.proofs.Appending.{without, written_with}
use Rattle.journal_index.proofs.Standing.{ends_placed, counts, index_left, index_amended}
use Rattle.journal_index.proofs.append.extend_and_amend.Goals as goal

pub size_of-requires : goal.size_of-requires
size_of-requires c = counts _ _ 0 _ _ _ _ _ _ _ _ c.requires.stands c.requires.index_value

pub returns-else-finished : goal.returns-else-finished
unfolding without
returns-else-finished c len =
    written_with _ _ _ _ _ refl c.requires.index_value c.extend_by-r.result _ _ (c.extend_by-r.ensures len _ (ends_placed _ _ _ c.requires.stands))
    (index_left _ _ len _ _ _ _ _ _ _ _ c.requires.stands c.requires.index_value c.size_of.result c.size_of.ensures
    c.is_finished-finished.result c.is_finished-finished.ensures (ap not c.if-finished.false))

pub returns-then-finished : goal.returns-then-finished
unfolding without
returns-then-finished c len =
    written_with _ _ _ _ _ refl c.requires.index_value c.extend_by-r.result _ _ (c.extend_by-r.ensures len _ (ends_placed _ _ _ c.requires.stands))
    (index_amended _ _ len _ _ _ _ _ _ _ _ c.requires.stands c.requires.index_value c.size_of.result c.size_of.ensures
    c.is_finished-finished.result c.is_finished-finished.ensures (ap not c.if-finished.true) _ c.amend.ensures)
