-- `mean_bits` is the bits of the mean, or 0.
-- Assumes nothing.
use Rattle.limit.specs.Answer.{moments_meaning}
use Rattle.journal_listing.specs.Listing.{mean_bits}
use Rattle.journal_listing.proofs.moments.mean_bits.Goals as goal

pub returns-in-Ok : goal.returns-in-Ok
unfolding moments_meaning mean_bits
returns-in-Ok c = rw c.in-Ok.is c.bits_of.ensures

pub returns-in-Err : goal.returns-in-Err
unfolding moments_meaning mean_bits
returns-in-Err c = rw c.in-Err.is
