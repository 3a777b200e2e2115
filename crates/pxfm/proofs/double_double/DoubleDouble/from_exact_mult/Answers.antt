-- `from_exact_mult`: the equations of both splits and of `new` rewrite the result to the definition's; the steps between them are the same operations.
-- Assumes nothing.
use Rattle.pxfm.specs.DoubleDouble.{from_exact_mult}
use Rattle.pxfm.proofs.double_double.DoubleDouble.from_exact_mult.Goals as goal

pub returns : goal.returns
unfolding from_exact_mult
returns c = rw (c.new.ensures, c.split-bs.ensures, c.split-asz.ensures)
