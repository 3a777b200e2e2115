-- `indexed` hands the answer on: an index that is made has room in its buffer.
-- Assumes nothing.
use Rattle.command_index.proofs.Fits.{size_fits}
use Rattle.command_index.proofs.made.indexed.Goals as goal

pub returns-clause-size_in_bounds : goal.returns-clause-size_in_bounds
returns-clause-size_in_bounds c = size_fits _ _ _ _ c.make_index.ensures
