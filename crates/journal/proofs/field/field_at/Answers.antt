-- `field_at` answers as the field's reader finds: each return is one of the field's three cases.
-- Assumes nothing.
use mathlib.Core.Path.{◌∙◌, ap}
use native.Mathlib.Omega.{arith}
use mathlib.Core.Logic.{inl, inr}
use Rattle.std.specs.Prelude.{Ok}
use Rattle.refusals.specs.Refusals.{number_of}
use Rattle.journal_spec.proofs.Judging.{inside}
use Rattle.journal.proofs.Ranges.{not_inside}
use Rattle.journal.proofs.Fields.{field_at_short, field_at_refused, field_at_value}
use Rattle.journal.proofs.field.field_at.Goals as goal

pub returns-then-b-at : goal.returns-then-b-at
returns-then-b-at c =
    let a = c.args in
    field_at_short a.w a.low a.high (number_of a.refusal) a.at a.b.now (omega arith)

pub returns-then-x-low : goal.returns-then-x-low
returns-then-x-low c =
    let a = c.args in
    let x = c.number_at-x in
    field_at_refused a.w a.low a.high (number_of a.refusal) a.at a.b.now (omega arith) c.requires.2
    (rw (← x.ensures.0) (not_inside a.low a.high (number_of a.refusal) x.result
    (λ h k. elim c.then-x-low.either [ inl l ↦ omega arith | inr l ↦ omega (arith, l) ])))

pub returns : goal.returns
returns c =
    let a = c.args in
    let x = c.number_at-x in
    ap Ok x.ensures.0
    ∙ field_at_value a.w a.low a.high (number_of a.refusal) a.at a.b.now (omega arith)
    (rw (← x.ensures.0) (inside a.low a.high (number_of a.refusal) x.result (omega arith) (omega arith)))
