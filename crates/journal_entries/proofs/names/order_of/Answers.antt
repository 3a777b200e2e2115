-- `order_of` is the library's `cmp`.
-- Assumes nothing.
use Rattle.journal_entries.proofs.Comparing.{order_by_cmp}
use Rattle.journal_entries.proofs.names.order_of.Goals as goal

pub returns : goal.returns
returns c = order_by_cmp _ _ _ c.cmp.ensures
