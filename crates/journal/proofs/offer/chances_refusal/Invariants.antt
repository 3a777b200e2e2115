-- `chances_refusal` judges the count, then one chance a turn, whose least value is above the chance before it.
-- Assumes nothing.
use Rattle.journal.proofs.Checking.{ChancesPassed}
use Rattle.journal.proofs.offer.chances_refusal.Given as goal

abbrev pub invariant-loop-chance : goal.invariant-loop-chance
invariant-loop-chance l = ChancesPassed l.chances l.low l.chance-index
