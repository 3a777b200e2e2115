-- `status_of` answers by the cases.
-- Assumes nothing.
use Rattle.std.proofs.Common.{◌≡◌, Err, refl}
use Rattle.journal.specs.declared.AppendError.{AppendError}
use Rattle.journal.specs.declared.AppendError.TheVariants as A
use Rattle.journal.specs.Answers.{append_meaning}
use Rattle.command_io.specs.declared.ending.Status.TheVariants as S
use Rattle.command_append.specs.Verdict.{verdict_status}
use Rattle.command_append.proofs.verdict.status_of.Goals as goal

refused : (error : AppendError) → S.Refused ≡ verdict_status (append_meaning (Err error))
unfolding verdict_status append_meaning
refused (A.Declined r) = refl
refused (A.DeclinedAt f) = refl
refused (A.Damaged f) = refl

pub returns-in-Ok : goal.returns-in-Ok
unfolding verdict_status append_meaning
returns-in-Ok c = rw c.in-Ok.is

pub returns-in-Err-Declined : goal.returns-in-Err-Declined
returns-in-Err-Declined c = rw c.in-Err-Declined.is (refused _)

pub returns-in-Err-DeclinedAt : goal.returns-in-Err-DeclinedAt
returns-in-Err-DeclinedAt c = rw c.in-Err-DeclinedAt.is (refused _)

pub returns-in-Err-Damaged : goal.returns-in-Err-Damaged
returns-in-Err-Damaged c = rw c.in-Err-Damaged.is (refused _)
