-- `is_index` passes one entry a turn: those left decide.
-- Assumes nothing.
use Prim.Native.Nat.{◌-◌}
use Rattle.journal_parts.specs.Numbers.{number_in}
use Rattle.journal_entries.proofs.Telling.{Telling}
use Rattle.journal_entries.proofs.shape.is_index.Given as goal

abbrev pub invariant-loop : goal.invariant-loop
invariant-loop l = Telling l.b (number_in 2 0 l.b - l.counter) l.low l.at
