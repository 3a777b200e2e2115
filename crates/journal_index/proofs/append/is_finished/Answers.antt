-- `is_finished` compares the size with the budget.
-- Assumes nothing.
use mathlib.Core.Path.{refl, sym}
use Prim.Native.Nat.{ℕ}
use native.Mathlib.Omega.{arith}
use borrow.Author.Tests.{le-leb}
use Rattle.journal_spec.specs.Request.{allowed}
use Rattle.journal.specs.Handed.{as_budget}
use Rattle.journal_index.proofs.append.is_finished.Goals as goal

pub returns-in-All : goal.returns-in-All
unfolding allowed as_budget
returns-in-All c = let size : ℕ = c.args.size in rw c.in-All.is (sym (le-leb size size (omega arith)))

pub returns-in-UpTo : goal.returns-in-UpTo
unfolding allowed as_budget
returns-in-UpTo c = rw c.in-UpTo.is refl
