-- `middle`: the definition's condition is turned into the answers that the two calls gave, so that the branch taken decides it;
-- the other branch adds the equation of the slower rational. Assumes nothing.
use Rattle.pxfm.specs.Inverfc.{middle_of}
use Rattle.pxfm.proofs.err.inverfc.middle.Goals as goal

pub returns-then-rounds_alike : goal.returns-then-rounds_alike
unfolding middle_of
returns-then-rounds_alike c = rw (← c.quick_rational-k.ensures, ← c.rounds_alike.ensures, c.if-rounds_alike.true)

pub returns : goal.returns
unfolding middle_of
returns c = rw (← c.quick_rational-k.ensures, ← c.rounds_alike.ensures, c.if-rounds_alike.false, c.inverf_0p06_to_0p75.ensures)
