-- `put_number` puts a space and the digits behind it.
-- Assumes nothing.
use Rattle.journal_listing.proofs.Putting.{put_put}
use Rattle.journal_listing.proofs.words.put_number.Goals as goal

pub returns : goal.returns
returns c = put_put _ _ _ _ _ _ _ _ c.put-p.ensures c.put_decimal.ensures
