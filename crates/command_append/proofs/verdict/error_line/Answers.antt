-- `error_line` puts the line of each of the three cases.
-- Assumes nothing.
use Rattle.journal.specs.Answers.{append_meaning}
use Rattle.journal_listing.specs.Listing.{word_damaged, word_declined, state_line}
use Rattle.command_append.specs.Verdict.{word_log, verdict_line}
use Rattle.command_append.proofs.verdict.error_line.Goals as goal

pub returns-in-Declined : goal.returns-in-Declined
unfolding verdict_line append_meaning word_declined
returns-in-Declined c = rw c.in-Declined.is (rw c.number.ensures at c.put_word.ensures)

pub returns-in-DeclinedAt : goal.returns-in-DeclinedAt
unfolding verdict_line append_meaning word_log
returns-in-DeclinedAt c = rw c.in-DeclinedAt.is (rw c.number-in-DeclinedAt.ensures at c.put_words.ensures)

pub returns-in-Damaged : goal.returns-in-Damaged
unfolding verdict_line append_meaning state_line word_damaged
returns-in-Damaged c = rw c.in-Damaged.is (rw c.number-in-Damaged.ensures at c.put_words-in-Damaged.ensures)
