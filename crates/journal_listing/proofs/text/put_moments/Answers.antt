-- `put_moments` puts the bits of the mean and then those of the spread.
-- Assumes nothing.
use Rattle.journal_listing.proofs.Putting.{put_put}
use Rattle.journal_listing.proofs.text.put_moments.Goals as goal

pub returns : goal.returns
returns c =
    rw (← c.mean_bits-mean.ensures, ← c.spread_bits-spread.ensures)
    (put_put _ _ _ _ _ _ _ _ c.put_bits-p.ensures c.put_bits.ensures)
