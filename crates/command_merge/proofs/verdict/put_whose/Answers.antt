-- `put_whose` puts one of two words and the line end.
-- Assumes nothing.
use Rattle.journal_merge.specs.Answers.{whose_of}
use Rattle.command_merge.specs.Verdict.{whose_word}
use Rattle.command_merge.proofs.verdict.put_whose.Goals as goal

pub returns-in-First : goal.returns-in-First
unfolding whose_word whose_of
returns-in-First c = rw c.in-First.is c.put.ensures

pub returns-in-Second : goal.returns-in-Second
unfolding whose_word whose_of
returns-in-Second c = rw c.in-Second.is c.put-in-Second.ensures
