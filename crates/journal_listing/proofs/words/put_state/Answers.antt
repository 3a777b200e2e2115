-- `put_state` puts the line of each of the three cases.
-- Assumes nothing.
use mathlib.Core.Path.{◌≡◌}
use Rattle.refusals.specs.Refusals.{number_of}
use Rattle.journal.specs.Answers.{meaning}
use Rattle.journal_listing.specs.Listing.{word_whole, word_torn, word_damaged, state_line}
use Rattle.journal_listing.proofs.words.put_state.Goals as goal

pub returns-in-Whole : goal.returns-in-Whole
unfolding state_line meaning word_whole
returns-in-Whole c = rw c.in-Whole.is c.put_words.ensures

pub returns-in-Torn : goal.returns-in-Torn
unfolding state_line meaning word_torn
returns-in-Torn c = rw c.in-Torn.is c.put_words-in-Torn.ensures

pub returns-in-Damaged : goal.returns-in-Damaged
unfolding state_line meaning word_damaged
returns-in-Damaged c =
    let told : c.from.result ≡ number_of c.in-Damaged.f.refusal = cc in
    rw (c.in-Damaged.is, ← told) c.put_words-in-Damaged.ensures
