-- `limits_of` cuts out the bytes of the limits' section. Assumes nothing.
use Rattle.journal_trial.specs.Together.{limit_bytes}
use Rattle.journal_trial.proofs.limits.limits_of.Goals as goal

pub returns : goal.returns
unfolding limit_bytes
returns c = cc
