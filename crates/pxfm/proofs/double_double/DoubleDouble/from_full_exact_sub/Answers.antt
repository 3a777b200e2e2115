-- `from_full_exact_sub`: its operations are the definition's, the negation of b among them, and `new` makes the pair.
-- Assumes nothing.
use Rattle.pxfm.specs.DoubleDouble.{from_full_exact_sub}
use Rattle.pxfm.proofs.double_double.DoubleDouble.from_full_exact_sub.Goals as goal

pub returns : goal.returns
unfolding from_full_exact_sub
returns c = rw c.new.ensures
