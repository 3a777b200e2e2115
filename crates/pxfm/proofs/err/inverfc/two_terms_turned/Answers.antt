-- `two_terms_turned`: the equations of its three calls, the last one first, rewrite the result to the definition's.
-- Assumes nothing.
use Rattle.pxfm.proofs.err.inverfc.two_terms_turned.Goals as goal

pub returns : goal.returns
returns c = rw (c.mul_add.ensures, c.pair-2.ensures, c.pair.ensures)

pub pair-requires : goal.pair-requires
pair-requires c = c.requires.0

pub pair-requires-2 : goal.pair-requires-2
pair-requires-2 c = c.requires.1
