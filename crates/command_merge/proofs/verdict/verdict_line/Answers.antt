-- `verdict_line` puts the result's length, or the line of the error.
-- Assumes nothing.
use Rattle.journal_merge.specs.Answers.{answer_of}
use Rattle.command_merge.specs.Verdict.{word_merged, verdict_line}
use Rattle.command_merge.proofs.verdict.verdict_line.Goals as goal

pub returns-in-Ok : goal.returns-in-Ok
unfolding verdict_line answer_of word_merged
returns-in-Ok c = rw c.in-Ok.is c.put_word.ensures

pub returns-in-Err : goal.returns-in-Err
returns-in-Err c = rw c.in-Err.is c.error_line.ensures
