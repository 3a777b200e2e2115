-- `check_inputs` looks at both scans' answers before either torn end. Assumes nothing.
use mathlib.Core.Path.{sym, ◌∙◌}
use mathlib.Core.Bool.{true, false}
use Rattle.std.proofs.lemmas.Result.{err_from_is_err_and}
use Rattle.journal_merge.specs.Answers.{inputs_by}
use Rattle.journal_merge.proofs.Outcomes.{inputs_first, inputs_second, inputs_both, first_ends_torn}
use Rattle.journal_merge.proofs.inputs.check_inputs.Goals as goal

pub returns-in_err-first_torn : goal.returns-in_err-first_torn
returns-in_err-first_torn c =
    let p = err_from_is_err_and c.from_residual.result c.from_residual.ensures.1 in
    rw (p.1, p.2) (inputs_first _ _ _ c.in_err-first_torn.ensures)

pub returns-in_err-second_torn : goal.returns-in_err-second_torn
returns-in_err-second_torn c =
    let p = err_from_is_err_and c.from_residual-in_err-second_torn.result c.from_residual-in_err-second_torn.ensures.1 in
    rw (p.1, p.2) (inputs_second _ _ _ _ c.in_ok-first_torn.ensures c.in_err-second_torn.ensures)

pub returns-then-first_torn : goal.returns-then-first_torn
returns-then-first_torn c =
    rw c.torn.ensures
    (first_ends_torn c.in_ok-second_torn.second_torn
    ∙ sym (inputs_both _ _ true _ (rw c.if-first_torn.true at c.in_ok-first_torn.ensures) c.in_ok-second_torn.ensures))

pub returns-then-second_torn : goal.returns-then-second_torn
unfolding inputs_by
returns-then-second_torn c =
    rw c.torn-then-second_torn.ensures
    (sym
    (inputs_both _ _ false true (rw c.if-first_torn.false at c.in_ok-first_torn.ensures) (rw c.if-second_torn.true at c.in_ok-second_torn.ensures)))

pub returns : goal.returns
unfolding inputs_by
returns c =
    sym
    (inputs_both _ _ false false (rw c.if-first_torn.false at c.in_ok-first_torn.ensures) (rw c.if-second_torn.false at c.in_ok-second_torn.ensures))
