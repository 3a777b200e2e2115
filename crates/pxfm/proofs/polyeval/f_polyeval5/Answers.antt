-- `f_polyeval5`: the equations of its four calls, the last one first, rewrite the result to the definition's.
-- Assumes nothing.
use Rattle.pxfm.specs.Polyeval.{f_polyeval5}
use Rattle.pxfm.proofs.polyeval.f_polyeval5.Goals as goal

pub returns : goal.returns
unfolding f_polyeval5
returns c = rw (c.polyeval_mla.ensures, c.polyeval_mla-acc-3.ensures, c.polyeval_mla-acc-2.ensures, c.polyeval_mla-acc.ensures)
