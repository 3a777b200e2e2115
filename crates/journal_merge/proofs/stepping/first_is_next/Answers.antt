-- `first_is_next` compares the days of the two records that are next. Assumes nothing.
use mathlib.Core.Path.{refl}
use native.Mathlib.Omega.{arith}
use borrow.Author.Tests.{le-leb, lt-leb, le-ltb}
use Rattle.journal_merge.specs.Passes.{first_next}
use Rattle.journal_merge.proofs.Reading.{rest_record}
use Rattle.journal_merge.proofs.stepping.first_is_next.Goals as goal

pub day_at-requires : goal.day_at-requires
day_at-requires c = rest_record _ _ c.requires.0 (omega arith)

pub day_at-requires-else-b-j : goal.day_at-requires-else-b-j
day_at-requires-else-b-j c = rest_record _ _ c.requires.1 (omega arith)

pub returns-then-b-j : goal.returns-then-b-j
unfolding first_next
returns-then-b-j c = rw (lt-leb _ _ c.if-i-a.true, le-leb _ _ c.if-b-j.true) refl

pub returns-else-b-j : goal.returns-else-b-j
unfolding first_next
returns-else-b-j c = rw (c.day_at.ensures, c.day_at-else-b-j.ensures, lt-leb _ _ c.if-i-a.true, lt-leb _ _ c.if-b-j.false) refl

pub returns-else-i-a : goal.returns-else-i-a
unfolding first_next
returns-else-i-a c = rw (le-leb _ _ c.if-i-a.false, le-ltb _ _ c.if-i-a.false) refl
