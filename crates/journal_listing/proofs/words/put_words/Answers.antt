-- `put_words` puts its parts one behind another.
-- Assumes nothing.
use Rattle.journal_listing.proofs.Putting.{put_put, put_as}
use Rattle.journal_listing.proofs.Texts.{words_line}
use Rattle.journal_listing.proofs.words.put_words.Goals as goal

pub returns : goal.returns
returns c =
    let word = put_put _ _ _ _ _ _ _ _ c.put-p.ensures c.put_number-q.ensures in
    let numbers = put_put _ _ _ _ _ _ _ _ word c.put_number-r.ensures in
    put_as _ _ _ _ _ _ (words_line _ _ _) (put_put _ _ _ _ _ _ _ _ numbers c.put.ensures)
