-- `entry_at` answers none where the entry's bytes do not all stand.
-- Assumes nothing.
use native.Mathlib.Omega.{arith}
use Rattle.journal_entries.proofs.ByCounts.{size_none, size_beyond, entry_is}
use Rattle.journal_entries.proofs.walking.entry_at.Goals as goal

pub returns-then-index-at : goal.returns-then-index-at
returns-then-index-at c = size_none _ _ (omega arith)

pub returns-then-room-lt6 : goal.returns-then-room-lt6
returns-then-room-lt6 c = size_none _ _ (omega arith)

pub returns-then-room-count : goal.returns-then-room-count
returns-then-room-count c = size_beyond _ _ _ (omega arith) c.number_in-count.ensures (omega arith)

pub returns : goal.returns
returns c = entry_is _ _ _ _ (omega arith) c.number_in-count.ensures c.number_in.ensures
