-- `name_refusal` judges the count, then one byte a turn.
-- Assumes nothing.
use native.Mathlib.Omega.{arith}
use Rattle.std.proofs.lemmas.Result.{err_from_is_err_and}
use Rattle.journal_spec.specs.Record.{name_section}
use Rattle.journal.proofs.Checking.{count_judged, count_passed, number_judged, number_passed, all_passed}
use Rattle.journal.proofs.offer.name_refusal.Goals as goal

pub returns-in_err-range_refusal : goal.returns-in_err-range_refusal
unfolding name_section
returns-in_err-range_refusal c =
    let p = err_from_is_err_and c.from_residual.result c.from_residual.ensures.1 in
    rw (p.1, p.2) (count_judged name_section c.args.name.now c.in_err-range_refusal.field-0.0 c.in_err-range_refusal.ensures)

pub loop-b-init : goal.loop-b-init
unfolding name_section
loop-b-init c = count_passed name_section c.args.name.now c.in_ok-range_refusal.ensures

pub returns-in_err-range_refusal-2 : goal.returns-in_err-range_refusal-2
unfolding name_section
returns-in_err-range_refusal-2 c =
    let l = c.loop-b in
    let again = c.from_residual-in_err-range_refusal-2 in
    let p = err_from_is_err_and again.result again.ensures.1 in
    rw (p.1, p.2)
    (number_judged name_section c.args.name.now l.b-index l.invariant c.in_err-range_refusal-2.field-0.0 (omega arith) c.in_err-range_refusal-2.ensures)

pub loop-b-preserved : goal.loop-b-preserved
unfolding name_section
loop-b-preserved c =
    let l = c.loop-b in
    number_passed name_section c.args.name.now l.b-index l.invariant (omega arith) c.in_ok-range_refusal-2.ensures

pub returns : goal.returns
returns c =
    let l = c.loop-b in
    all_passed name_section c.args.name.now l.b-index l.invariant (omega arith)
