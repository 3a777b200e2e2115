-- `mark_from` is its definition by the three ways of its tests.
-- Assumes nothing.
use borrow.Author.Tests.{lt-ltb, le-ltb}
use Rattle.journal_spec.specs.Read.{few_times, mark_from}
use Rattle.journal.specs.Answers.{as_mark}
use Rattle.journal.proofs.marks.mark_from.Goals as goal

pub returns-then-times-lt-FEW_TIMES : goal.returns-then-times-lt-FEW_TIMES
unfolding as_mark mark_from
returns-then-times-lt-FEW_TIMES c = rw (lt-ltb c.args.times few_times c.if-times-lt-FEW_TIMES.true)

pub returns-then-flat : goal.returns-then-flat
unfolding as_mark mark_from
returns-then-flat c = rw (le-ltb c.args.times few_times c.if-times-lt-FEW_TIMES.false, c.if-flat.true)

pub returns-else-flat : goal.returns-else-flat
unfolding as_mark mark_from
returns-else-flat c = rw (le-ltb c.args.times few_times c.if-times-lt-FEW_TIMES.false, c.if-flat.false)
