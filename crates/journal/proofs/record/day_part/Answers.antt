-- `day_part` judges the day by the range from the last record's day to the greatest u16, which no two bytes exceed.
-- Assumes nothing.
use mathlib.Core.Path.{refl, ap, ◌∙◌}
use Prim.Native.Nat.{ℕ}
use native.Mathlib.Omega.{arith}
use Rattle.std.proofs.lemmas.Result.{err_from_is_err_and}
use Rattle.journal_spec.specs.Refusals.{day_refusal}
use Rattle.journal_spec.specs.Reader.{Reader}
use Rattle.journal_spec.specs.Record.{Record, judge_day}
use Rattle.journal_spec.specs.Stages.{day_stage, name_stage}
use Rattle.journal.specs.Records.{as_last, entry_of, record_read}
use Rattle.journal.proofs.Stopping.{halted_kept}
use Rattle.journal.proofs.Fields.{field_value, field_part_value, field_part_halted}
use Rattle.journal.proofs.Heads.{day_agrees}
use Rattle.journal.proofs.record.day_part.Goals as goal

pub name_part-requires : goal.name_part-requires
name_part-requires c =
    let a = c.args in
    let v = field_value 2 a.last.day 65_535 day_refusal a.at a.b.now (omega arith)
    _ c.in_ok-day.ensures _ refl in
    omega (arith, v.there, c.requires)

pub returns : goal.returns
unfolding day_stage
returns c =
    let a = c.args in
    let k : ℕ → Reader Record = λ day. name_stage a.form day in
    let bytes = day_agrees a.last a.at a.b.now (λ i. omega (arith, c.type_inv.b i)) in
    c.name_part.ensures
    ∙ ap record_read
    (field_part_value k (judge_day (as_last a.last)) 2 a.last.day 65_535 day_refusal a.at a.b.now bytes
    _ c.in_ok-day.ensures _ refl)

pub returns-in_err-day : goal.returns-in_err-day
unfolding day_stage
returns-in_err-day c =
    let a = c.args in
    let k : ℕ → Reader Record = λ day. name_stage a.form day in
    let bytes = day_agrees a.last a.at a.b.now (λ i. omega (arith, c.type_inv.b i)) in
    let p = err_from_is_err_and c.from_residual.result c.from_residual.ensures.1 in
    rw (p.1, p.2)
    (halted_kept entry_of _
    ∙ ap record_read
    (field_part_halted k (judge_day (as_last a.last)) 2 a.last.day 65_535 day_refusal a.at a.b.now bytes
    _ c.in_err-day.ensures _ refl))
