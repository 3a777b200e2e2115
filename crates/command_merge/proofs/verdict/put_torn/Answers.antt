-- `put_torn` puts the number and whose end is torn.
-- Assumes nothing.
use Rattle.journal_listing.specs.Listing.{word_declined}
use Rattle.journal_listing.proofs.Putting.{put_put, put_as}
use Rattle.command_merge.specs.Verdict.{verdict_line}
use Rattle.command_merge.proofs.Lines.{whose_line}
use Rattle.command_merge.proofs.verdict.put_torn.Goals as goal

pub returns : goal.returns
unfolding verdict_line word_declined
returns c =
    let number = put_put _ _ _ _ _ _ _ _ c.put-word.ensures (rw c.number.ensures at c.put_number-number.ensures) in
    put_as _ _ _ _ _ _ (whose_line _ _ _) (put_put _ _ _ _ _ _ _ _ number c.put_whose.ensures)
