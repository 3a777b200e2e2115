-- `append` is the core's call with all of the record for its budget.
-- Assumes nothing.
use Rattle.journal.specs.Handed.{as_budget, as_rule}
use Rattle.journal.proofs.append.Goals as goal

pub returns : goal.returns
unfolding as_budget as_rule
returns c = c.append_with.ensures
