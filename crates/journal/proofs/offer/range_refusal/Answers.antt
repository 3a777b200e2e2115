-- `range_refusal` is its definition: outside the range or inside.
-- Assumes nothing.
use mathlib.Core.Path.{sym}
use mathlib.Core.Logic.{inl, inr}
use native.Mathlib.Omega.{arith}
use Rattle.refusals.specs.Refusals.{number_of}
use Rattle.journal_spec.proofs.Judging.{inside}
use Rattle.journal.proofs.Ranges.{not_inside}
use Rattle.journal.proofs.offer.range_refusal.Goals as goal

pub returns-then-x-low : goal.returns-then-x-low
returns-then-x-low c =
    let a = c.args in
    let e = not_inside a.low a.high (number_of a.refusal) a.x (λ h k. elim c.then-x-low.either [ inl l ↦ omega arith | inr l ↦ omega (arith, l) ]) in
    (sym e, omega (arith, e, c.requires))

pub returns : goal.returns
returns c =
    let a = c.args in
    inside a.low a.high (number_of a.refusal) a.x (omega arith) (omega arith)
