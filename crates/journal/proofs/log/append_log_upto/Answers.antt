-- `append_log_upto` is the call through a log with its budget.
-- Assumes nothing.
use Rattle.journal.specs.Handed.{as_budget, as_rule}
use Rattle.journal.proofs.log.append_log_upto.Goals as goal

pub returns : goal.returns
unfolding as_budget as_rule
returns c = c.append_log_with.ensures
