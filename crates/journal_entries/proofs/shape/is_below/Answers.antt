-- `is_below` goes by the order of the two names.
-- Assumes nothing.
use Rattle.journal_entries.proofs.Comparing.{below_by_order}
use Rattle.journal_entries.proofs.shape.is_below.Goals as goal

pub returns : goal.returns
returns c = below_by_order _ _ _ _ c.order_of.ensures c.is_lt.ensures
