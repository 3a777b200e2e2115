-- `merged` hands the answer on: a result that is made has room in its buffer.
-- Assumes nothing.
use Rattle.command_merge.proofs.Fits.{size_fits}
use Rattle.command_merge.proofs.made.merged.Goals as goal

pub returns-clause-size_in_bounds : goal.returns-clause-size_in_bounds
returns-clause-size_in_bounds c = size_fits _ _ _ _ _ _ _ c.merge.ensures
