-- `inverse` is `f_erfinv` of the rounded quotient of two exact doubles.
-- Assumes nothing.
use lib.Ieee.{of_int, of_bits}
use Rattle.band.specs.Band.{inverse_of}
use Rattle.band.proofs.formula.inverse.Goals as goal

pub returns : goal.returns
unfolding inverse_of of_bits of_int
returns c = c.f_erfinv.ensures
