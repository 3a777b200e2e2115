-- `has_entries` holds one entry a turn against the next place's record.
-- Assumes nothing.
use Rattle.journal_index.proofs.Comparing.{Comparing}
use Rattle.journal_index.proofs.own.has_entries.Given as goal

abbrev pub invariant-loop-at : goal.invariant-loop-at
invariant-loop-at l = Comparing l.b l.places l.index l.left l.place l.at-index
