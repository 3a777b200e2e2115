-- `text_ticks::whole::halves_in_range` meets its contract: the halves of a pattern without its sign are those of the pattern. Assumes nothing.
use Rattle.text_ticks.proofs.Halving.{halves_signed}
use Rattle.text_ticks.proofs.whole.halves_in_range.Goals as goal

pub returns : goal.returns
returns c = (c.if-size-ge-END.false, halves_signed _ _ _ c.halves_of.ensures)
