-- `least_next` is its definition by the two ways of its test.
-- Assumes nothing.
use native.Mathlib.Numerals.{add-one}
use Rattle.journal.specs.Rules.{least_next}
use Rattle.journal.proofs.section.least_next.Goals as goal

pub returns-then-rising : goal.returns-then-rising
unfolding least_next
returns-then-rising c = rw (c.if-rising.true, add-one)

pub returns-else-rising : goal.returns-else-rising
unfolding least_next
returns-else-rising c = rw c.if-rising.false
