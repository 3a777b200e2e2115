-- `limit_from` is its definition, operation by operation.
-- Assumes nothing.
use mathlib.Core.Path.{refl}
use lib.Ieee.{of_bits}
use Rattle.limit.specs.Formula.{limit_from}
use Rattle.limit.proofs.formula.limit_from.Goals as goal

pub returns : goal.returns
unfolding limit_from of_bits
returns c = refl
