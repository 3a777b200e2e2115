-- `chances_refusal` judges the count, then one chance a turn, whose least value is above the chance before it.
-- Assumes nothing.
use native.Mathlib.Omega.{arith}
use Rattle.std.proofs.lemmas.Result.{err_from_is_err_and}
use Rattle.journal_spec.specs.Record.{chance_section}
use Rattle.journal.proofs.Checking.{count_judged, number_judged, all_passed, chances_start, chance_judged, chances_more}
use Rattle.journal.proofs.offer.chances_refusal.Goals as goal

pub returns-in_err-range_refusal : goal.returns-in_err-range_refusal
unfolding chance_section
returns-in_err-range_refusal c =
    let p = err_from_is_err_and c.from_residual.result c.from_residual.ensures.1 in
    rw (p.1, p.2) (count_judged chance_section c.args.chances.now c.in_err-range_refusal.field-0.0 c.in_err-range_refusal.ensures)

pub loop-chance-init : goal.loop-chance-init
unfolding chance_section
loop-chance-init c = chances_start c.args.chances.now c.in_ok-range_refusal.ensures

pub returns-in_err-range_refusal-2 : goal.returns-in_err-range_refusal-2
returns-in_err-range_refusal-2 c =
    let l = c.loop-chance in
    let chances = c.args.chances.now in
    let again = c.from_residual-in_err-range_refusal-2 in
    let p = err_from_is_err_and again.result again.ensures.1 in
    rw (p.1, p.2)
    (number_judged chance_section chances l.chance-index l.invariant.passed c.in_err-range_refusal-2.field-0.0 (omega arith)
    (rw (← chance_judged chances l.low l.chance-index l.invariant) c.in_err-range_refusal-2.ensures))

pub loop-chance-preserved : goal.loop-chance-preserved
loop-chance-preserved c =
    let l = c.loop-chance in
    chances_more c.args.chances.now l.low l.chance-index l.invariant (omega arith) c.in_ok-range_refusal-2.ensures

pub returns : goal.returns
returns c =
    let l = c.loop-chance in
    all_passed chance_section c.args.chances.now l.chance-index l.invariant.passed (omega arith)
