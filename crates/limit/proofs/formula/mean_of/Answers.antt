-- `mean_of` is the rounded quotient of two exact doubles.
-- Assumes nothing.
use mathlib.Core.Path.{refl}
use Rattle.limit.specs.Formula.{mean_of}
use Rattle.limit.proofs.formula.mean_of.Goals as goal

pub returns : goal.returns
unfolding mean_of
returns c = refl
