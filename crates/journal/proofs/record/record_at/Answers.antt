-- `record_at` judges the form, first by its range and then by the form before it, and goes on to the day.
-- Assumes nothing.
use mathlib.Core.Path.{refl, ◌≡◌, sym, ap, ◌∙◌}
use Prim.Native.Nat.{ℕ}
use mathlib.Core.List.{List}
use native.Mathlib.Omega.{arith}
use lib.ListN.{drop}
use Rattle.limit.specs.Formula.{plain_form, sample_form}
use Rattle.limit.specs.Answer.{form_refusal}
use Rattle.std.proofs.lemmas.Result.{err_from_is_err_and}
use Rattle.journal_spec.specs.Reader.{Found, field, run}
use Rattle.journal_spec.specs.Record.{Record, judge_form}
use Rattle.journal_spec.specs.Stages.{day_stage}
use Rattle.journal_spec.proofs.Records.{by_stages}
use Rattle.journal.specs.declared.record.Head.{Head}
use Rattle.journal.specs.Told.{kept_of}
use Rattle.journal.specs.Records.{as_last, entry_of, record_read, record_at}
use Rattle.journal.proofs.Stopping.{halted_kept}
use Rattle.journal.proofs.Fields.{field_value}
use Rattle.journal.proofs.Heads.{form_halted, form_falls, form_good}
use Rattle.journal.proofs.record.record_at.Goals as goal

-- the answer by stages
staged : (last : Head) (at : ℕ) (b : List ℕ) (f : Found Record)
    → f ≡ run (field 2 (judge_form (as_last last)) (day_stage (as_last last))) at (drop at b) → record_read f ≡ record_at last at b
unfolding record_at
staged last at b f e = ap record_read (e ∙ ap (λ r. run r at (drop at b)) (sym (by_stages (as_last last))))

pub returns-then-form-last : goal.returns-then-form-last
unfolding kept_of
returns-then-form-last c =
    let a = c.args in
    staged a.last a.at a.b.now _
    (form_falls (day_stage (as_last a.last)) a.last a.at a.b.now _ c.in_ok-form.ensures _ refl c.if-form-last.true)

pub day_part-requires : goal.day_part-requires
day_part-requires c =
    let a = c.args in
    let v = field_value 2 plain_form sample_form form_refusal a.at a.b.now (omega arith)
    _ c.in_ok-form.ensures _ refl in
    omega (arith, v.there, c.requires)

pub returns : goal.returns
returns c =
    let a = c.args in
    c.day_part.ensures
    ∙ staged a.last a.at a.b.now _
    (form_good (day_stage (as_last a.last)) a.last a.at a.b.now _ c.in_ok-form.ensures _ refl c.if-form-last.false)

pub returns-in_err-form : goal.returns-in_err-form
returns-in_err-form c =
    let a = c.args in
    let p = err_from_is_err_and c.from_residual.result c.from_residual.ensures.1 in
    rw (p.1, p.2)
    (halted_kept entry_of _
    ∙ staged a.last a.at a.b.now _
    (form_halted (day_stage (as_last a.last)) a.last a.at a.b.now _ c.in_err-form.ensures _ refl))
