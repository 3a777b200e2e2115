-- `end_of` is the least of the budget and the record's size.
-- Assumes nothing.
use native.Mathlib.Omega.{arith}
use Rattle.journal_spec.specs.Request.{allowed}
use Rattle.journal.specs.Handed.{as_budget}
use Rattle.journal.proofs.extend.end_of.Goals as goal

pub returns-in-All : goal.returns-in-All
unfolding allowed as_budget
returns-in-All c = rw c.in-All.is (omega arith)

pub returns-in-UpTo : goal.returns-in-UpTo
unfolding allowed as_budget
returns-in-UpTo c = rw c.in-UpTo.is c.min.ensures
