-- `try_from` is the form with the number, and refusal 2 at every other number.
-- Assumes nothing.
use Rattle.std.proofs.Common.{arith}
use Rattle.std.proofs.lemmas.Bool.Decides.{nat_tests}
use Rattle.limit.specs.Times.{in_range}
use Rattle.limit.specs.Limit.{form_known}
use Rattle.limit.proofs.forms.FormTryFromU64.try_from.Goals as goal

pub returns-in-1 : goal.returns-in-1
unfolding form_known in_range
returns-in-1 c = grind (arith, nat_tests)

pub returns-in-2 : goal.returns-in-2
unfolding form_known in_range
returns-in-2 c = grind (arith, nat_tests)

pub returns-in_default : goal.returns-in_default
unfolding form_known in_range
returns-in_default c = grind (arith, nat_tests)
