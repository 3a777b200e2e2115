-- `error_line` puts the line of each of the four cases.
-- Assumes nothing.
use Rattle.journal_listing.specs.Listing.{word_declined}
use Rattle.journal_merge.specs.Answers.{answer_of}
use Rattle.command_merge.specs.Verdict.{verdict_line}
use Rattle.command_merge.proofs.verdict.error_line.Goals as goal

pub returns-in-Declined : goal.returns-in-Declined
unfolding verdict_line answer_of word_declined
returns-in-Declined c = rw c.in-Declined.is (rw c.number.ensures at c.put_word.ensures)

pub returns-in-DeclinedAt : goal.returns-in-DeclinedAt
unfolding verdict_line answer_of word_declined
returns-in-DeclinedAt c = rw c.in-DeclinedAt.is (rw c.number-in-DeclinedAt.ensures at c.put_words.ensures)

pub returns-in-DeclinedOf : goal.returns-in-DeclinedOf
unfolding answer_of
returns-in-DeclinedOf c = rw c.in-DeclinedOf.is c.put_torn.ensures

pub returns-in-Damaged : goal.returns-in-Damaged
unfolding answer_of
returns-in-Damaged c = rw c.in-Damaged.is c.put_damage.ensures
