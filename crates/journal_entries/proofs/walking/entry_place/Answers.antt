-- `entry_place` passes the entries before the position, at most all.
-- Assumes nothing.
use mathlib.Core.Path.{ap, ◌∙◌}
use Rattle.journal_entries.specs.declared.walking.End.{End}
use Rattle.journal_entries.proofs.ByCounts.{place_within}
use Rattle.journal_entries.proofs.walking.entry_place.Goals as goal

pub returns : goal.returns
returns c = ap (λ (e : End). e.place) c.walk.ensures ∙ place_within _ _ c.args.position _ c.number_in-count.ensures c.min.ensures
