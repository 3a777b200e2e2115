-- `error_line` puts the line of each of the two cases.
-- Assumes nothing.
use Rattle.journal_listing.specs.Listing.{word_damaged, word_declined, state_line}
use Rattle.command_index.specs.Verdict.{numbered, error_line}
use Rattle.command_index.proofs.verdict.error_line.Goals as goal

pub returns-in-Declined : goal.returns-in-Declined
unfolding error_line numbered word_declined
returns-in-Declined c = rw c.in-Declined.is (rw c.number.ensures at c.put_word.ensures)

pub returns-in-Damaged : goal.returns-in-Damaged
unfolding error_line state_line word_damaged
returns-in-Damaged c = rw c.in-Damaged.is (rw c.number-in-Damaged.ensures at c.put_words.ensures)
