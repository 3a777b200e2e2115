-- `measure` tests the line's length and end, and reads the letter. Assumes nothing.
use Rattle.std.proofs.Common.{arith, sym, eq-eqb}
use Rattle.std.proofs.lemmas.Bool.Decides.{nat_tests}
use Rattle.replay_numbers.specs.Numbers.{measured_kind, measured_line}
use Rattle.replay_numbers.proofs.line.measure.Goals as goal

pub returns-then-line-ne45 : goal.returns-then-line-ne45
unfolding measured_line
returns-then-line-ne45 c = grind (arith, nat_tests)

pub returns-in_err-of : goal.returns-in_err-of
unfolding measured_line measured_kind
returns-in_err-of c =
    rw (c.from_residual.ensures, eq-eqb _ _ c.if-line-ne45.false, eq-eqb _ _ c.if-line-ne10.false, sym c.in_err-of.ensures)

pub returns : goal.returns
unfolding measured_line measured_kind
returns c =
    rw (eq-eqb _ _ c.if-line-ne45.false, eq-eqb _ _ c.if-line-ne10.false, sym c.in_ok-of.ensures) c.measure_numbers.ensures
