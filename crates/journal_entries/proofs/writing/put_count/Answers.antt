-- `put_count` puts the count's two bytes.
-- Assumes nothing.
use Rattle.text_digits.proofs.Putting.{put_as}
use Rattle.journal_entries.proofs.Putting.{two_low}
use Rattle.journal_entries.proofs.writing.put_count.Goals as goal

pub returns : goal.returns
returns c = put_as _ _ _ _ _ _ (two_low _ _ c.to_le_bytes.ensures) c.put.ensures
