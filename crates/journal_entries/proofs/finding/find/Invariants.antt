-- `find` compares one entry a turn: those left decide.
-- Assumes nothing.
use Prim.Native.Nat.{◌-◌}
use Rattle.journal_parts.specs.Numbers.{number_in}
use Rattle.journal_entries.proofs.Seeking.{Sought}
use Rattle.journal_entries.proofs.finding.find.Given as goal

abbrev pub invariant-loop : goal.invariant-loop
invariant-loop l = Sought l.index l.name (number_in 2 0 l.index - l.counter) l.place
