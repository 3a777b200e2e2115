-- `listed` is its definition, by the three cases of a status.
-- Assumes nothing.
use Rattle.journal.specs.Answers.{meaning}
use Rattle.journal_listing.specs.Lines.{listed_of}
use Rattle.journal_listing.proofs.listed.Goals as goal

pub returns-in-Whole : goal.returns-in-Whole
unfolding meaning listed_of
returns-in-Whole c = rw c.in-Whole.is

pub returns-in-Torn : goal.returns-in-Torn
unfolding meaning listed_of
returns-in-Torn c = rw c.in-Torn.is

pub returns-in-Damaged : goal.returns-in-Damaged
unfolding meaning listed_of
returns-in-Damaged c = rw c.in-Damaged.is
