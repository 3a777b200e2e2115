-- `divisor_of` is its definition: one of two products of numbers up to 128.
-- Assumes nothing.
use Rattle.limit.specs.Formula.{divisor_of}
use Rattle.limit.proofs.forms.Form.divisor_of.Goals as goal

pub returns-in-Plain : goal.returns-in-Plain
unfolding divisor_of
returns-in-Plain c = rw c.in-Plain.is

pub returns-in-Sample : goal.returns-in-Sample
unfolding divisor_of
returns-in-Sample c = rw c.in-Sample.is
