-- `section_at` reads the count and then so many numbers: each return is what the section's reader finds by the count's answer.
-- Assumes nothing.
use mathlib.Core.Path.{refl, ◌∙◌}
use native.Mathlib.Omega.{arith}
use Rattle.std.proofs.lemmas.Result.{err_from_is_err_and}
use Rattle.refusals.specs.Refusals.{number_of}
use Rattle.journal.proofs.Fields.{field_value}
use Rattle.journal.proofs.Sections.{section_numbers, section_halted}
use Rattle.journal.proofs.section.section_at.Goals as goal

pub numbers_at-requires : goal.numbers_at-requires
numbers_at-requires c =
    let a = c.args in
    let r = a.rule in
    let v = field_value 2 r.least r.most (number_of r.refusal) a.at a.b.now c.requires.2.refuses _ c.in_ok-n.ensures _ refl in
    (omega (arith, v.there, c.requires.0), omega (arith, v.most, c.requires.2.few), c.requires.1, c.requires.2)

pub returns : goal.returns
returns c =
    let a = c.args in
    c.numbers_at.ensures ∙ section_numbers a.width a.rule a.at a.b.now _ c.in_ok-n.ensures _ refl

pub returns-in_err-n : goal.returns-in_err-n
returns-in_err-n c =
    let a = c.args in
    let p = err_from_is_err_and c.from_residual.result c.from_residual.ensures.1 in
    rw (p.1, p.2) (section_halted a.width a.rule a.at a.b.now _ c.in_err-n.ensures _ refl)
