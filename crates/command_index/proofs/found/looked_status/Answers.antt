-- `looked_status` answers by the cases.
-- Assumes nothing.
use Rattle.std.proofs.Common.{◌≡◌, Err, refl}
use Rattle.command_io.specs.declared.ending.Status.TheVariants as S
use Rattle.command_index.specs.declared.found.LookError.{LookError}
use Rattle.command_index.specs.declared.found.LookError.TheVariants as L
use Rattle.command_index.specs.Found.{found_meaning, looked_status}
use Rattle.command_index.proofs.found.looked_status.Goals as goal

refused : (error : LookError) → S.Refused ≡ looked_status (found_meaning (Err error))
unfolding looked_status found_meaning
refused L.Absent = refl
refused L.Other = refl
refused (L.Damaged f) = refl

pub returns-in-Ok : goal.returns-in-Ok
unfolding looked_status found_meaning
returns-in-Ok c = rw c.in-Ok.is

pub returns-in-Err-Absent : goal.returns-in-Err-Absent
returns-in-Err-Absent c = rw c.in-Err-Absent.is (refused _)

pub returns-in-Err-Other : goal.returns-in-Err-Other
returns-in-Err-Other c = rw c.in-Err-Other.is (refused _)

pub returns-in-Err-Damaged : goal.returns-in-Err-Damaged
returns-in-Err-Damaged c = rw c.in-Err-Damaged.is (refused _)
