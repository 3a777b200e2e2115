-- `ends_from` is its definition, operation by operation.
-- Assumes nothing.
use mathlib.Core.Path.{refl}
use lib.Ieee.{of_bits}
use Rattle.band.specs.Band.{ends_from}
use Rattle.band.proofs.formula.ends_from.Goals as goal

pub returns : goal.returns
unfolding ends_from of_bits
returns c = refl
