-- `spread_by` is the root of the rounded quotient of two exact doubles.
-- Assumes nothing.
use Rattle.limit.specs.Formula.{spread_by}
use Rattle.limit.proofs.formula.spread_by.Goals as goal

pub returns : goal.returns
unfolding spread_by
returns c = rw c.sqrt.ensures
