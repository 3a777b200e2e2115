-- `is_begun` passes one entry a turn: those left decide.
-- Assumes nothing.
use Prim.Native.Nat.{◌-◌}
use Rattle.journal_spec.specs.Bytes.{number_at}
use Rattle.journal_index.proofs.Beginning.{Beginning}
use Rattle.journal_index.proofs.begun.is_begun.Given as goal

abbrev pub invariant-loop : goal.invariant-loop
invariant-loop l = Beginning l.b (number_at 2 0 l.b - l.counter) l.low l.at
