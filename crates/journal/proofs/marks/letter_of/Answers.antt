-- `letter_of` is its definition, case by case.
-- Assumes nothing.
use Rattle.journal_spec.specs.Read.{letter_of}
use Rattle.journal.specs.Answers.{as_mark}
use Rattle.journal.proofs.marks.letter_of.Goals as goal

pub returns-in-Flat : goal.returns-in-Flat
unfolding letter_of as_mark
returns-in-Flat c = rw c.in-Flat.is

pub returns-in-Few : goal.returns-in-Few
unfolding letter_of as_mark
returns-in-Few c = rw c.in-Few.is

pub returns-in-Normal : goal.returns-in-Normal
unfolding letter_of as_mark
returns-in-Normal c = rw c.in-Normal.is
