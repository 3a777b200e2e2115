-- `add` adds one time to each of the three sums; the square of a u32 is a u64.
-- Assumes nothing.
use Rattle.limit.specs.Sums.{saturating_add, add_time}
use Rattle.limit.proofs.sums.Sums.add.Goals as goal

pub returns : goal.returns
unfolding add_time saturating_add
returns c = rw (c.saturating_add-3.ensures, c.saturating_add-2.ensures, c.saturating_add.ensures)
