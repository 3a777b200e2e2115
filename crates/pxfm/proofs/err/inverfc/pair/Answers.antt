-- `pair`: that neither pattern of the row is a NaN's is what `from_bit_pair` requires, and its equation is the result's.
-- Assumes nothing.
use Rattle.pxfm.proofs.err.inverfc.pair.Goals as goal

pub returns : goal.returns
returns c = c.from_bit_pair.ensures
