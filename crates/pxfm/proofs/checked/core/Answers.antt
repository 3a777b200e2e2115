-- `core`: the test that the high part is below 1 is what `erf_core` requires; each branch is the definition's.
-- Assumes nothing.
use Rattle.pxfm.specs.Checked.{checked_erf_core}
use Rattle.pxfm.proofs.checked.core.Goals as goal

pub returns-then-x : goal.returns-then-x
unfolding checked_erf_core
returns-then-x c = rw (c.erf_core.ensures, c.if-x.true)

pub returns : goal.returns
unfolding checked_erf_core
returns c = rw (c.nan_pair.ensures, c.if-x.false)
