-- `patterns`: the equations of its two calls rewrite both parts.
-- Assumes nothing.
use Rattle.std.proofs.Common.{rules}
use Rattle.pxfm.proofs.steps.patterns.Goals as goal

pub returns : goal.returns
returns c = rw (c.bits_of-2.ensures, c.bits_of.ensures)

pub bits_of-requires : goal.bits_of-requires
bits_of-requires = (search rules)

pub bits_of-requires-2 : goal.bits_of-requires-2
bits_of-requires-2 = (search rules)
