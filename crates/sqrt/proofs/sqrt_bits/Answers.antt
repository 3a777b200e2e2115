-- `sqrt_bits`: the equations of its three calls, the last one first, rewrite the result to the definition's.
-- Assumes nothing.
use Rattle.sqrt.proofs.sqrt_bits.Goals as goal

pub returns : goal.returns
returns c = rw (c.bits_of.ensures, c.sqrt.ensures, c.of_bits.ensures)
