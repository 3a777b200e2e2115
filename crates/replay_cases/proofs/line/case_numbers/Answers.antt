-- `case_numbers` reads the three numbers one after another: one return where all stand, one for each that does not.
-- Assumes nothing.
use Rattle.std.proofs.Common.{sym}
use Rattle.replay_lines.proofs.Fields.{three_read, third_missing, second_missing, first_missing}
use Rattle.replay_cases.specs.Line.{case_numbers}
use Rattle.replay_cases.proofs.line.case_numbers.Goals as goal

pub returns-in_err-place : goal.returns-in_err-place
unfolding case_numbers
returns-in_err-place c = rw c.from_residual.ensures (first_missing _ _ _ _ _ (sym c.in_err-place.ensures))

pub returns-in_err-n : goal.returns-in_err-n
unfolding case_numbers
returns-in_err-n c =
    rw c.from_residual-in_err-n.ensures (second_missing _ _ _ _ _ c.in_ok-place.place (sym c.in_ok-place.ensures) (sym c.in_err-n.ensures))

pub returns-in_err-i : goal.returns-in_err-i
unfolding case_numbers
returns-in_err-i c =
    rw c.from_residual-in_err-i.ensures
    (third_missing _ _ _ _ _ c.in_ok-place.place c.in_ok-n.n (sym c.in_ok-place.ensures) (sym c.in_ok-n.ensures) (sym c.in_err-i.ensures))

pub returns : goal.returns
unfolding case_numbers
returns c =
    rw c.case_kind.ensures
    (three_read _ _ _ _ _ c.in_ok-place.place c.in_ok-n.n c.in_ok-i.i (sym c.in_ok-place.ensures) (sym c.in_ok-n.ensures) (sym c.in_ok-i.ensures))
