-- `checked_line` puts the length, or the line of the error.
-- Assumes nothing.
use Rattle.std.proofs.Common.{◌≡◌, ℕ, Err, refl}
use Rattle.journal_listing.proofs.Putting.{put_as}
use Rattle.journal_index.specs.declared.IndexError.{IndexError}
use Rattle.journal_index.specs.declared.IndexError.TheVariants as E
use Rattle.journal_index.specs.Checked.{check_meaning}
use Rattle.command_index.specs.Verdict.{word_own, numbered, checked_line, error_line}
use Rattle.command_index.proofs.verdict.checked_line.Goals as goal

refused : (size : ℕ) (error : IndexError) → error_line error ≡ checked_line size (check_meaning (Err error))
unfolding error_line checked_line check_meaning
refused size (E.Declined r) = refl
refused size (E.Damaged f) = refl

pub returns-in-Ok : goal.returns-in-Ok
unfolding checked_line check_meaning numbered word_own
returns-in-Ok c = rw c.in-Ok.is c.put_word.ensures

pub returns-in-Err : goal.returns-in-Err
returns-in-Err c = rw c.in-Err.is (put_as _ _ _ _ _ _ (refused _ _) c.error_line.ensures)
