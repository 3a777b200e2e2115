-- `text_digits::write::places` meets its contract. The invariant is `Counting`; the measure is what is left of the number.
-- Assumes nothing.
use Rattle.text_digits.proofs.Counting.{counting_starts, counting_turn, counting_ends}
use Rattle.text_digits.proofs.write.places.Goals as goal

pub loop-rest-init : goal.loop-rest-init
loop-rest-init c = counting_starts c.args.n c.ranges.n.fits

pub loop-rest-preserved : goal.loop-rest-preserved
loop-rest-preserved c = counting_turn _ _ _ c.loop-rest-test.true c.loop-rest.invariant

pub returns : goal.returns
returns c = counting_ends _ _ _ c.loop-rest-test.false c.loop-rest.invariant
