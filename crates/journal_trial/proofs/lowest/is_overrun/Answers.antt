-- `is_overrun` takes the products in parts.
-- Assumes nothing.
use Rattle.std.proofs.Common.{sym}
use Rattle.journal_trial_spec.proofs.Overrun.{overruns_by_parts}
use Rattle.journal_trial.proofs.lowest.is_overrun.Goals as goal

pub returns : goal.returns
returns c = sym (overruns_by_parts _ _ _)
