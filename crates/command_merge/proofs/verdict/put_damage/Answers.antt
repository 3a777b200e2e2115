-- `put_damage` puts number, place and whose fault it is.
-- Assumes nothing.
use Rattle.journal_listing.specs.Listing.{word_damaged}
use Rattle.journal_listing.proofs.Putting.{put_put, put_as}
use Rattle.command_merge.specs.Verdict.{verdict_line}
use Rattle.command_merge.proofs.Lines.{whose_line_2}
use Rattle.command_merge.proofs.verdict.put_damage.Goals as goal

pub returns : goal.returns
unfolding verdict_line word_damaged
returns c =
    let number = put_put _ _ _ _ _ _ _ _ c.put-word.ensures (rw c.number.ensures at c.put_number-number.ensures) in
    let place = put_put _ _ _ _ _ _ _ _ number c.put_number-place.ensures in
    put_as _ _ _ _ _ _ (whose_line_2 _ _ _ _) (put_put _ _ _ _ _ _ _ _ place c.put_whose.ensures)
