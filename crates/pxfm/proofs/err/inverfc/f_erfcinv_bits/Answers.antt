-- `f_erfcinv_bits`: the equations of its three calls, the last one first, rewrite the result to the definition's.
-- Assumes nothing.
use Rattle.pxfm.proofs.err.inverfc.f_erfcinv_bits.Goals as goal

pub returns : goal.returns
returns c = rw (c.bits_of.ensures, c.f_erfcinv.ensures, c.of_bits-x.ensures)
