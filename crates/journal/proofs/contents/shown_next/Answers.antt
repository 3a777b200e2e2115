-- `shown_next` is its definition by the two ways of its test.
-- Assumes nothing.
use Rattle.journal.specs.Contents.{shown_next}
use Rattle.journal.proofs.contents.shown_next.Goals as goal

pub returns-then-not-this : goal.returns-then-not-this
unfolding shown_next
returns-then-not-this c = rw c.if-not-this.true

pub returns : goal.returns
unfolding shown_next
returns c = rw c.if-not-this.false
