-- `bytes_at` takes the bytes in from the last down: its loop keeps the value of the bytes passed.
-- Assumes nothing.
use Rattle.journal_spec.proofs.NumberFromBytes.{Gathering}
use Rattle.journal_parts.proofs.number.bytes_at.Given as goal

abbrev pub invariant-loop-j : goal.invariant-loop-j
invariant-loop-j l = Gathering l.b l.at l.w l.value l.j
