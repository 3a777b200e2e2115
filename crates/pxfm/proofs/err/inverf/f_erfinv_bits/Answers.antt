-- `f_erfinv_bits`: the equations of its three calls, the last one first, rewrite the result to the definition's.
-- Assumes nothing.
use Rattle.pxfm.proofs.err.inverf.f_erfinv_bits.Goals as goal

pub returns : goal.returns
returns c = rw (c.bits_of.ensures, c.f_erfinv.ensures, c.of_bits-x.ensures)
