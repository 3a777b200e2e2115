-- `end_of` passes as many entries as the count says.
-- Assumes nothing.
use mathlib.Core.Path.{ap, ◌∙◌}
use Rattle.journal_entries.specs.Places.{end_of}
use Rattle.journal_entries.proofs.ByCounts.{count_read}
use Rattle.journal_entries.proofs.walking.end_of.Goals as goal

pub returns : goal.returns
returns c = c.walk.ensures ∙ ap end_of (count_read _ _ c.number_in.ensures)
