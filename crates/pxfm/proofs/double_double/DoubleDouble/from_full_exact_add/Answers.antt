-- `from_full_exact_add`: its six operations are the definition's, and `new` makes the pair.
-- Assumes nothing.
use Rattle.pxfm.specs.DoubleDouble.{from_full_exact_add}
use Rattle.pxfm.proofs.double_double.DoubleDouble.from_full_exact_add.Goals as goal

pub returns : goal.returns
unfolding from_full_exact_add
returns c = rw c.new.ensures
