-- `unfound_line` puts the line of each of the three cases.
-- Assumes nothing.
use Rattle.journal_listing.specs.Listing.{word_damaged, word_declined, state_line}
use Rattle.command_index.specs.Verdict.{numbered}
use Rattle.command_index.specs.Found.{found_meaning, word_refused, looked_line}
use Rattle.command_index.proofs.found.unfound_line.Goals as goal

pub returns-in-Absent : goal.returns-in-Absent
unfolding looked_line found_meaning numbered word_refused
returns-in-Absent c = rw c.in-Absent.is c.put_word.ensures

pub returns-in-Other : goal.returns-in-Other
unfolding looked_line found_meaning numbered word_declined
returns-in-Other c = rw c.in-Other.is c.put_word-in-Other.ensures

pub returns-in-Damaged : goal.returns-in-Damaged
unfolding looked_line found_meaning state_line word_damaged
returns-in-Damaged c = rw c.in-Damaged.is (rw c.number.ensures at c.put_words.ensures)
