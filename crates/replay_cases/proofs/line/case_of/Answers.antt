-- `case_of` tests the line's length and end. Assumes nothing.
use Rattle.std.proofs.Common.{arith, eq-eqb}
use Rattle.std.proofs.lemmas.Bool.Decides.{nat_tests}
use Rattle.replay_cases.specs.Line.{case_of}
use Rattle.replay_cases.proofs.line.case_of.Goals as goal

pub returns-then-line-ne56 : goal.returns-then-line-ne56
unfolding case_of
returns-then-line-ne56 c = grind (arith, nat_tests)

pub returns : goal.returns
unfolding case_of
returns c = rw (eq-eqb _ _ c.if-line-ne56.false, eq-eqb _ _ c.if-line-ne10.false) c.case_numbers.ensures
