-- `shift` moves one place a turn, the last one first.
-- Assumes nothing.
use Rattle.journal_entries.proofs.Opening.{Moving}
use Rattle.journal_order.proofs.putting.shift.Given as goal

abbrev pub invariant-loop-i : goal.invariant-loop-i
invariant-loop-i l = Moving l.initial.places l.from l.to 1 l.places l.i
