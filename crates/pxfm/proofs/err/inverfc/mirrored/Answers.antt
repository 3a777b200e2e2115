-- `mirrored`: its test is the definition's; each branch is rewritten by the equation of its one call.
-- Assumes nothing.
use Rattle.pxfm.specs.Argument.{mirrored_of}
use Rattle.pxfm.proofs.err.inverfc.mirrored.Goals as goal

pub returns-then-x : goal.returns-then-x
unfolding mirrored_of
returns-then-x c = rw (c.from_full_exact_sub.ensures, c.if-x.true)

pub returns : goal.returns
unfolding mirrored_of
returns c = rw (c.new.ensures, c.if-x.false)
