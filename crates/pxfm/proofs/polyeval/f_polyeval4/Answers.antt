-- `f_polyeval4`: the equations of its three calls, the last one first, rewrite the result to the definition's.
-- Assumes nothing.
use Rattle.pxfm.specs.Polyeval.{f_polyeval4}
use Rattle.pxfm.proofs.polyeval.f_polyeval4.Goals as goal

pub returns : goal.returns
unfolding f_polyeval4
returns c = rw (c.polyeval_mla.ensures, c.polyeval_mla-t5.ensures, c.polyeval_mla-t2.ensures)
