-- `name_refusal` judges the count, then one byte a turn.
-- Assumes nothing.
use Rattle.journal_spec.specs.Record.{name_section}
use Rattle.journal.proofs.Checking.{Passed}
use Rattle.journal.proofs.offer.name_refusal.Given as goal

abbrev pub invariant-loop-b : goal.invariant-loop-b
invariant-loop-b l = Passed name_section l.name l.b-index
