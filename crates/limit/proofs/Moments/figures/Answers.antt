-- `figures` answers mean, spread and quantile as it got them, and the limit from the three.
-- Assumes nothing.
use Rattle.limit.specs.Formula.{figures_from}
use Rattle.limit.proofs.Moments.figures.Goals as goal

pub returns : goal.returns
unfolding figures_from
returns c = rw c.limit_from-limit.ensures
