-- `chances_part` reads the chances and hands their place and number on: chances that were read stand in the bytes.
-- Assumes nothing.
use mathlib.Core.Path.{refl, ap, ◌∙◌}
use mathlib.Core.List.{List}
use Prim.Native.Nat.{ℕ}
use native.Mathlib.Omega.{arith}
use Rattle.std.proofs.lemmas.Result.{err_from_is_err_and}
use Rattle.journal_spec.specs.Reader.{Reader, done}
use Rattle.journal_spec.specs.Record.{Record, chance_section}
use Rattle.journal_spec.specs.Stages.{chance_stage, time_stage}
use Rattle.journal.specs.Rules.{chance_rule}
use Rattle.journal.specs.Records.{entry_of, record_read}
use Rattle.journal.proofs.Stopping.{halted_kept}
use Rattle.journal.proofs.Sections.{chance_ruled}
use Rattle.journal.proofs.Parts.{part_halted, part_read, chances_stand}
use Rattle.journal.proofs.record.chances_part.Goals as goal

pub times_part-requires : goal.times_part-requires
unfolding chance_rule
times_part-requires c =
    let a = c.args in
    let read = c.in_ok-chances.chances in
    let p = part_read (λ l. done l) chance_section 4 chance_rule chance_ruled a.at a.b.now _ c.in_ok-chances.ensures _ refl in
    let stand = chances_stand a.b.now p.xs a.at read.next p.rest read.sums p.known p.total in
    let there = p.known.inside c.requires in
    (there, omega (arith, stand.1, there))

pub returns : goal.returns
unfolding chance_rule chance_stage
returns c name =
    let a = c.args in
    let read = c.in_ok-chances.chances in
    let k : List ℕ → Reader Record = λ list. time_stage a.head.form a.head.day name list in
    let p = part_read k chance_section 4 chance_rule chance_ruled a.at a.b.now _ c.in_ok-chances.ensures _ refl in
    let stand = chances_stand a.b.now p.xs a.at read.next p.rest read.sums p.known p.total in
    c.times_part.ensures name p.xs stand.0 ∙ ap record_read p.goes

pub returns-in_err-chances : goal.returns-in_err-chances
unfolding chance_rule chance_stage
returns-in_err-chances c name =
    let a = c.args in
    let k : List ℕ → Reader Record = λ list. time_stage a.head.form a.head.day name list in
    let p = err_from_is_err_and c.from_residual.result c.from_residual.ensures.1 in
    rw (p.1, p.2)
    (halted_kept entry_of _
    ∙ ap record_read
    (part_halted k chance_section 4 chance_rule chance_ruled a.at a.b.now _ c.in_err-chances.ensures _ refl))
