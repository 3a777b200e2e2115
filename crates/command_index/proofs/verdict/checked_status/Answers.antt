-- `checked_status` answers by the cases.
-- Assumes nothing.
use Rattle.std.proofs.Common.{◌≡◌, Err, refl}
use Rattle.journal_index.specs.declared.IndexError.{IndexError}
use Rattle.journal_index.specs.declared.IndexError.TheVariants as E
use Rattle.journal_index.specs.Checked.{check_meaning}
use Rattle.command_io.specs.declared.ending.Status.TheVariants as S
use Rattle.command_index.specs.Verdict.{checked_status}
use Rattle.command_index.proofs.verdict.checked_status.Goals as goal

refused : (error : IndexError) → S.Refused ≡ checked_status (check_meaning (Err error))
unfolding checked_status check_meaning
refused (E.Declined r) = refl
refused (E.Damaged f) = refl

pub returns-in-Ok : goal.returns-in-Ok
unfolding checked_status check_meaning
returns-in-Ok c = rw c.in-Ok.is

pub returns-in-Err-Declined : goal.returns-in-Err-Declined
returns-in-Err-Declined c = rw c.in-Err-Declined.is (refused _)

pub returns-in-Err-Damaged : goal.returns-in-Err-Damaged
returns-in-Err-Damaged c = rw c.in-Err-Damaged.is (refused _)
