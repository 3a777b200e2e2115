-- `mark` is `mark_by` by the plain rule.
-- Assumes nothing.
use Rattle.journal.specs.Handed.{as_rule}
use Rattle.journal.proofs.mark.Goals as goal

pub returns : goal.returns
unfolding as_rule
returns c = c.mark_by.ensures
