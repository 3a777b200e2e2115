-- `read_number` meets its contract. The invariant: going on from `i` with what the text has come to gives what all of it gives.
-- Assumes nothing.
use Rattle.std.proofs.Common.{◌≡◌, false, nat_lt, drop, Some}
use Rattle.command_io.specs.Arguments.{number_from}
use Rattle.command_io.proofs.number.read_number.Given as goal

abbrev pub invariant-loop-i : goal.invariant-loop-i
invariant-loop-i l = number_from l.most false (Some 0) l.text ≡ number_from l.most (nat_lt 0 l.i) l.number (drop l.i l.text)
