-- `name_width` looks at one entry a turn: the width so far and those left decide.
-- Assumes nothing.
use Prim.Native.Nat.{◌-◌}
use Rattle.journal_parts.specs.Numbers.{number_in}
use Rattle.journal_report.proofs.Widths.{Widening}
use Rattle.journal_report.proofs.width.name_width.Given as goal

abbrev pub invariant-loop : goal.invariant-loop
invariant-loop l = Widening l.index l.width (number_in 2 0 l.index - l.counter) l.at
