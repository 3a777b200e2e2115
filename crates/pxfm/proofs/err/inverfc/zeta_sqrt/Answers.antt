-- `zeta_sqrt`: the equations of its three calls rewrite the result to the definition's.
-- Assumes nothing.
use Rattle.pxfm.specs.Inverfc.{zeta_sqrt}
use Rattle.pxfm.proofs.err.inverfc.zeta_sqrt.Goals as goal

pub returns : goal.returns
unfolding zeta_sqrt
returns c = rw (c.fast_sqrt.ensures, c.neg-zeta.ensures, c.from_exact_add.ensures)
