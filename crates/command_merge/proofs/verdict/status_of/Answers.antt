-- `status_of` answers by the cases.
-- Assumes nothing.
use Rattle.std.proofs.Common.{◌≡◌, Err, refl}
use Rattle.journal_merge.specs.declared.MergeError.{MergeError}
use Rattle.journal_merge.specs.declared.MergeError.TheVariants as E
use Rattle.journal_merge.specs.Answers.{answer_of}
use Rattle.command_io.specs.declared.ending.Status.TheVariants as S
use Rattle.command_merge.specs.Verdict.{verdict_status}
use Rattle.command_merge.proofs.verdict.status_of.Goals as goal

refused : (error : MergeError) → S.Refused ≡ verdict_status (answer_of (Err error))
unfolding verdict_status answer_of
refused (E.Damaged w f) = refl
refused (E.DeclinedOf w r) = refl
refused (E.DeclinedAt f) = refl
refused (E.Declined r) = refl

pub returns-in-Ok : goal.returns-in-Ok
unfolding verdict_status answer_of
returns-in-Ok c = rw c.in-Ok.is

pub returns-in-Err-Declined : goal.returns-in-Err-Declined
returns-in-Err-Declined c = rw c.in-Err-Declined.is (refused _)

pub returns-in-Err-DeclinedAt : goal.returns-in-Err-DeclinedAt
returns-in-Err-DeclinedAt c = rw c.in-Err-DeclinedAt.is (refused _)

pub returns-in-Err-DeclinedOf : goal.returns-in-Err-DeclinedOf
returns-in-Err-DeclinedOf c = rw c.in-Err-DeclinedOf.is (refused _)

pub returns-in-Err-Damaged : goal.returns-in-Err-Damaged
returns-in-Err-Damaged c = rw c.in-Err-Damaged.is (refused _)
