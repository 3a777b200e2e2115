-- `shift` moves one byte a turn, the last one first.
-- Assumes nothing.
use Rattle.journal_entries.proofs.Opening.{Moving}
use Rattle.journal_entries.proofs.amending.shift.Given as goal

abbrev pub invariant-loop-i : goal.invariant-loop-i
invariant-loop-i l = Moving l.initial.index l.from l.to l.size l.index l.i
