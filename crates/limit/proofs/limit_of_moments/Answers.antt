-- `limit_of_moments` works the quantile of the chance out first.
-- Assumes nothing.
use Rattle.limit.specs.Limit.{limit_of_moments}
use Rattle.limit.proofs.limit_of_moments.Goals as goal

pub returns : goal.returns
unfolding limit_of_moments
returns c = rw (c.limit_of_quantile.ensures, c.quantile_of.ensures)
