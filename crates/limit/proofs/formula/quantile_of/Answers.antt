-- `quantile_of` is `f_erfcinv` of the rounded quotient of two exact doubles.
-- Assumes nothing.
use lib.Ieee.{of_int, of_bits}
use Rattle.limit.specs.Formula.{quantile_of}
use Rattle.limit.proofs.formula.quantile_of.Goals as goal

pub returns : goal.returns
unfolding quantile_of of_bits of_int
returns c = c.f_erfcinv.ensures
