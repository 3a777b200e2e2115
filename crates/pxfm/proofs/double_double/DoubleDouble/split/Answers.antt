-- `split`: its four operations are the definition's, and `new` makes the pair of the last two results.
-- Assumes nothing.
use Rattle.pxfm.specs.DoubleDouble.{split_of}
use Rattle.pxfm.proofs.double_double.DoubleDouble.split.Goals as goal

pub returns : goal.returns
unfolding split_of
returns c = rw c.new.ensures
