-- `times_part` reads the times and hands their sums on: times that were read are in range, so that their sums are plausible.
-- Assumes nothing.
use mathlib.Core.Path.{refl, ap, ◌∙◌}
use mathlib.Core.List.{List}
use Prim.Native.Nat.{ℕ}
use Rattle.limit.proofs.Plausible.{times_plausible}
use Rattle.std.proofs.lemmas.Result.{err_from_is_err_and}
use Rattle.journal_spec.specs.Reader.{Reader, done}
use Rattle.journal_spec.specs.Record.{Record, time_section}
use Rattle.journal_spec.specs.Stages.{time_stage, limit_stage}
use Rattle.journal.specs.Rules.{time_rule}
use Rattle.journal.specs.Records.{entry_of, record_read}
use Rattle.journal.proofs.Stopping.{halted_kept}
use Rattle.journal.proofs.Sections.{time_ruled}
use Rattle.journal.proofs.Parts.{part_halted, part_read, times_in_range_lem}
use Rattle.journal.proofs.record.times_part.Goals as goal

pub limits_part-requires : goal.limits_part-requires
unfolding time_rule
limits_part-requires c =
    let a = c.args in
    let read = c.in_ok-times.times in
    let p = part_read (λ l. done l) time_section 4 time_rule time_ruled a.at a.b.now _ c.in_ok-times.ensures _ refl in
    (p.known.inside c.requires.0, c.requires.1, rw p.total (times_plausible p.xs (times_in_range_lem a.b.now p.xs a.at read.next p.rest p.found')))

pub returns : goal.returns
unfolding time_rule time_stage
returns c name list stand =
    let a = c.args in
    let read = c.in_ok-times.times in
    let k : List ℕ → Reader Record = λ times. limit_stage a.head.form a.head.day name list times in
    let p = part_read k time_section 4 time_rule time_ruled a.at a.b.now _ c.in_ok-times.ensures _ refl in
    let good = times_in_range_lem a.b.now p.xs a.at read.next p.rest p.found' in
    c.limits_part.ensures name list p.xs stand good p.total ∙ ap record_read p.goes

pub returns-in_err-times : goal.returns-in_err-times
unfolding time_rule time_stage
returns-in_err-times c name list stand =
    let a = c.args in
    let k : List ℕ → Reader Record = λ times. limit_stage a.head.form a.head.day name list times in
    let p = err_from_is_err_and c.from_residual.result c.from_residual.ensures.1 in
    rw (p.1, p.2)
    (halted_kept entry_of _
    ∙ ap record_read
    (part_halted k time_section 4 time_rule time_ruled a.at a.b.now _ c.in_err-times.ensures _ refl))
