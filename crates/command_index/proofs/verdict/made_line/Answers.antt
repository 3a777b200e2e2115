-- `made_line` puts the length, or the line of the error.
-- Assumes nothing.
use Rattle.std.proofs.Common.{◌≡◌, Err, refl}
use Rattle.journal_listing.proofs.Putting.{put_as}
use Rattle.journal_index.specs.declared.IndexError.{IndexError}
use Rattle.journal_index.specs.declared.IndexError.TheVariants as E
use Rattle.journal_index.specs.Made.{made_meaning}
use Rattle.command_index.specs.Verdict.{word_indexed, numbered, made_line, error_line}
use Rattle.command_index.proofs.verdict.made_line.Goals as goal

refused : (error : IndexError) → error_line error ≡ made_line (made_meaning (Err error))
unfolding error_line made_line made_meaning
refused (E.Declined r) = refl
refused (E.Damaged f) = refl

pub returns-in-Ok : goal.returns-in-Ok
unfolding made_line made_meaning numbered word_indexed
returns-in-Ok c = rw c.in-Ok.is c.put_word.ensures

pub returns-in-Err : goal.returns-in-Err
returns-in-Err c = rw c.in-Err.is (put_as _ _ _ _ _ _ (refused _) c.error_line.ensures)
