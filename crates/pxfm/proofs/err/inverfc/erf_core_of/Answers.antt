-- `erf_core_of`: the pair that it makes has the high part that `erf_core` requires, and the equations of its three calls give the result.
-- Assumes nothing.
use Rattle.pxfm.proofs.err.inverfc.erf_core_of.Goals as goal

pub erf_core-requires : goal.erf_core-requires
erf_core-requires c = rw c.new.ensures c.requires

pub returns : goal.returns
returns c = rw (c.to_f64.ensures, c.erf_core.ensures, c.new.ensures)
