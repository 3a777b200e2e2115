-- `text_digits::write::places` meets its contract. The invariant is `Counting`; the measure is what is left of the number.
-- Assumes nothing.
use Rattle.text_digits.proofs.Counting.{Counting}
use Rattle.text_digits.proofs.write.places.Given as goal

abbrev pub invariant-loop-rest : goal.invariant-loop-rest
invariant-loop-rest l = Counting l.n l.count l.rest

abbrev pub decreases-loop-rest : goal.decreases-loop-rest
decreases-loop-rest l = l.rest
