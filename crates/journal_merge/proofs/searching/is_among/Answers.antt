-- `is_among` goes by whether a place is found. Assumes nothing.
use mathlib.Core.Path.{◌∙◌}
use Rattle.journal_order.proofs.Entering.{climbs_rises}
use Rattle.journal_merge.proofs.Search.{found_told}
use Rattle.journal_merge.proofs.searching.is_among.Goals as goal

pub look_up-requires : goal.look_up-requires
look_up-requires c = climbs_rises _ _ c.requires.latest.climbs

pub returns : goal.returns
returns c = c.is_some.ensures ∙ found_told _ _ _ c.requires _ c.look_up.ensures
