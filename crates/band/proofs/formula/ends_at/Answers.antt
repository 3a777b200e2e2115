-- `ends_at` is the ends around the mean at the inverse error function of the share.
-- Assumes nothing.
use Rattle.band.proofs.formula.ends_at.Goals as goal

pub returns : goal.returns
returns c = rw (c.ends_from.ensures, c.inverse.ensures)
