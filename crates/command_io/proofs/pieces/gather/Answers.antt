-- `gather` meets its contract: each way out is a case of the definition, by the tests before it and the equation of `put`. Assumes nothing.
use Rattle.std.proofs.Common.{sym, ◌∙◌}
use Rattle.command_io.proofs.Gathering.{gathers_behind, gathers_anew, gathers_failed, gathers_none, then_zero}
use Rattle.command_io.proofs.pieces.gather.Goals as goal

pub returns-then-fits : goal.returns-then-fits
returns-then-fits c = gathers_behind _ _ _ _ _ (sym c.fits.ensures ∙ c.if-fits.true) c.put.ensures

pub returns-then-not-flush : goal.returns-then-not-flush
returns-then-not-flush c = gathers_failed _ _ _ (sym c.fits.ensures ∙ c.if-fits.false)

pub returns-then-fits-2 : goal.returns-then-fits-2
returns-then-fits-2 c =
    gathers_anew _ _ _ _ _ (sym c.fits.ensures ∙ c.if-fits.false) (sym c.fits-2.ensures ∙ c.if-fits-2.true) c.put-then-fits-2.ensures

pub returns : goal.returns
returns c = gathers_none _ _ _ _ (rw c.then_some.ensures (then_zero c.print.result)) (sym c.fits.ensures ∙ c.if-fits.false) (sym c.fits-2.ensures ∙ c.if-fits-2.false)
