-- `name_part` reads the name, of which the answer keeps nothing, and goes on to the chances.
-- Assumes nothing.
use mathlib.Core.Path.{refl, ap, ◌∙◌}
use mathlib.Core.List.{List}
use Prim.Native.Nat.{ℕ}
use Rattle.std.proofs.lemmas.Result.{err_from_is_err_and}
use Rattle.journal_spec.specs.Reader.{Reader, done}
use Rattle.journal_spec.specs.Record.{Record, name_section}
use Rattle.journal_spec.specs.Stages.{name_stage, chance_stage}
use Rattle.journal.specs.Rules.{name_rule}
use Rattle.journal.specs.Records.{entry_of, record_read}
use Rattle.journal.proofs.Stopping.{halted_kept}
use Rattle.journal.proofs.Sections.{name_ruled}
use Rattle.journal.proofs.Parts.{part_halted, part_read}
use Rattle.journal.proofs.record.name_part.Goals as goal

pub chances_part-requires : goal.chances_part-requires
unfolding name_rule
chances_part-requires c =
    let a = c.args in
    (part_read (λ l. done l) name_section 1 name_rule name_ruled a.at a.b.now _ c.in_ok-name.ensures _ refl).known.inside c.requires

pub returns : goal.returns
unfolding name_rule name_stage
returns c =
    let a = c.args in
    let k : List ℕ → Reader Record = λ name. chance_stage a.head.form a.head.day name in
    let p = part_read k name_section 1 name_rule name_ruled a.at a.b.now _ c.in_ok-name.ensures _ refl in
    c.chances_part.ensures p.xs ∙ ap record_read p.goes

pub returns-in_err-name : goal.returns-in_err-name
unfolding name_rule name_stage
returns-in_err-name c =
    let a = c.args in
    let k : List ℕ → Reader Record = λ name. chance_stage a.head.form a.head.day name in
    let p = err_from_is_err_and c.from_residual.result c.from_residual.ensures.1 in
    rw (p.1, p.2)
    (halted_kept entry_of _
    ∙ ap record_read
    (part_halted k name_section 1 name_rule name_ruled a.at a.b.now _ c.in_err-name.ensures _ refl))
