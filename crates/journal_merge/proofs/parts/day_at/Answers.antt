-- `day_at` answers the u16 that stands there. Assumes nothing.
use mathlib.Core.Path.{◌∙◌}
use Rattle.journal_merge.proofs.Reading.{day_read}
use Rattle.journal_merge.proofs.parts.day_at.Goals as goal

pub returns : goal.returns
returns c = c.number_in.ensures ∙ day_read c.args.b.now c.args.at c.requires
