-- `verdict_line` puts the new length, or the line of the error.
-- Assumes nothing.
use Rattle.journal.specs.Answers.{append_meaning}
use Rattle.command_append.specs.Verdict.{word_extended, verdict_line}
use Rattle.command_append.proofs.verdict.verdict_line.Goals as goal

pub returns-in-Ok : goal.returns-in-Ok
unfolding verdict_line append_meaning word_extended
returns-in-Ok c = rw c.in-Ok.is c.put_word.ensures

pub returns-in-Err : goal.returns-in-Err
returns-in-Err c = rw c.in-Err.is c.error_line.ensures
