-- `are_profile` compares the four chances one after another.
-- Assumes nothing.
use mathlib.Core.Logic.{inl, inr}
use borrow.Author.Tests.{eq-eqb, ne_eqb}
use Rattle.journal_spec.specs.Tests.{same}
use Rattle.journal.proofs.InProfile.{and_true}
use Rattle.journal.proofs.profile.are_profile.Goals as goal

pub returns-then-first-ne1 : goal.returns-then-first-ne1
unfolding same
returns-then-first-ne1 c =
    elim c.then-first-ne1.either [
      | inl f ↦ rw (ne_eqb _ 1 f)
      | inr h ↦ elim h [ inl s ↦ rw (eq-eqb _ 1 s.0, ne_eqb _ 10 s.1) | inr t ↦ rw (eq-eqb _ 1 t.0, eq-eqb _ 10 t.1, ne_eqb _ 100 t.2) ]
    ]

pub returns : goal.returns
unfolding same
returns c = rw (eq-eqb _ 1 c.if-first-ne1.false, eq-eqb _ 10 c.if-second-ne10.false, eq-eqb _ 100 c.if-third-ne100.false, and_true)
