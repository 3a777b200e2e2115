-- `limit_at` reads the bits of a limit that stands. Assumes nothing.
use Rattle.std.proofs.Common.{arith}
use Rattle.journal_trial.proofs.OnePass.{limit_none, limit_here}
use Rattle.journal_trial.proofs.limits.limit_at.Goals as goal

pub returns-then-bytes-j : goal.returns-then-bytes-j
returns-then-bytes-j c = limit_none _ _ (omega arith)

pub returns : goal.returns
returns c = limit_here _ _ _ (omega arith) c.number_in.ensures
