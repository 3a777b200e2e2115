-- `measure_numbers` reads the three numbers one after another: one return where all stand, one for each that does not.
-- Assumes nothing.
use Rattle.std.proofs.Common.{sym}
use Rattle.replay_numbers.specs.Numbers.{measured_numbers}
use Rattle.replay_lines.proofs.Fields.{field_below, three_read, third_missing, second_missing, first_missing}
use Rattle.replay_numbers.proofs.line.measure_numbers.Goals as goal

pub measure_at-requires : goal.measure_at-requires
measure_at-requires c = field_below _ 36 8 _ (sym c.in_ok-part.ensures)

pub returns-in_err-x : goal.returns-in_err-x
unfolding measured_numbers
returns-in_err-x c = rw c.from_residual.ensures (first_missing _ _ _ _ _ (sym c.in_err-x.ensures))

pub returns-in_err-double : goal.returns-in_err-double
unfolding measured_numbers
returns-in_err-double c =
    rw c.from_residual-in_err-double.ensures
    (second_missing _ _ _ _ _ c.in_ok-x.x (sym c.in_ok-x.ensures) (sym c.in_err-double.ensures))

pub returns-in_err-part : goal.returns-in_err-part
unfolding measured_numbers
returns-in_err-part c =
    rw c.from_residual-in_err-part.ensures
    (third_missing _ _ _ _ _ c.in_ok-x.x c.in_ok-double.double (sym c.in_ok-x.ensures) (sym c.in_ok-double.ensures) (sym c.in_err-part.ensures))

pub returns : goal.returns
unfolding measured_numbers
returns c =
    rw c.measure_at.ensures
    (three_read _ _ _ _ _ c.in_ok-x.x c.in_ok-double.double c.in_ok-part.part
    (sym c.in_ok-x.ensures) (sym c.in_ok-double.ensures) (sym c.in_ok-part.ensures))
