-- `record_in_profile` tests the form, how many chances and times there are, and then the four chances where they stand.
-- Assumes nothing.
use mathlib.Core.Path.{◌∙◌}
use mathlib.Core.Logic.{inl, inr}
use native.Mathlib.Omega.{arith}
use borrow.Author.Tests.{eq-eqb, ne_eqb}
use Rattle.limit.specs.Formula.{sample_form}
use Rattle.journal.proofs.InProfile.{other_count, few_times_lem, by_standing}
use Rattle.journal.proofs.profile.record_in_profile.Goals as goal

pub returns-then-form-ne-SAMPLE_FORM : goal.returns-then-form-ne-SAMPLE_FORM
returns-then-form-ne-SAMPLE_FORM c list stand =
    elim c.then-form-ne-SAMPLE_FORM.either [
      | inl f ↦ rw (ne_eqb _ sample_form f)
      | inr h ↦ elim h [
        | inl s ↦ rw (eq-eqb _ sample_form s.0) (other_count list c.args.times (λ e. s.1 (omega (arith, stand.count, e))))
        | inr t ↦ rw (eq-eqb _ sample_form t.0) (few_times_lem list c.args.times t.2)
      ]
    ]

pub returns : goal.returns
returns c list stand =
    c.are_profile.ensures
    ∙ rw (c.number_at-first.ensures.0, c.number_at-second.ensures.0, c.number_at-third.ensures.0, c.number_at-fourth.ensures.0)
    (by_standing _ _ _ _ _ list stand c.if-form-ne-SAMPLE_FORM.false (omega (arith, c.if-n.false)) c.if-times-lt-PROFILE_TIMES.false)
