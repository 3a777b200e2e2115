-- `put_word` puts its parts one behind another.
-- Assumes nothing.
use Rattle.journal_listing.proofs.Putting.{put_put, put_as}
use Rattle.journal_listing.proofs.Texts.{word_line}
use Rattle.journal_listing.proofs.words.put_word.Goals as goal

pub returns : goal.returns
returns c =
    let word = put_put _ _ _ _ _ _ _ _ c.put-behind.ensures c.put_number-end.ensures in
    put_as _ _ _ _ _ _ (word_line _ _) (put_put _ _ _ _ _ _ _ _ word c.put.ensures)
