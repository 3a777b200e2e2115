-- `look_up` compares one entry a turn: those left decide.
-- Assumes nothing.
use Prim.Native.Nat.{◌-◌}
use Rattle.journal_parts.specs.Numbers.{number_in}
use Rattle.journal_entries.proofs.LookedUp.{Looking}
use Rattle.journal_entries.proofs.finding.look_up.Given as goal

abbrev pub invariant-loop : goal.invariant-loop
invariant-loop l = Looking l.index l.name (number_in 2 0 l.index - l.counter) l.at
