-- `put_mark` puts the words or nothing.
-- Assumes nothing.
use Rattle.command_trial.specs.Text.{word_more, mark_text}
use Rattle.command_trial.proofs.text.put_mark.Goals as goal

pub returns-then-marked : goal.returns-then-marked
unfolding mark_text word_more
returns-then-marked c = rw c.if-marked.true c.put.ensures

pub returns-else-marked : goal.returns-else-marked
unfolding mark_text
returns-else-marked c = rw c.if-marked.false c.put-else-marked.ensures
