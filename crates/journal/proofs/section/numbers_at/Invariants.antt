-- `numbers_at` passes one number a turn: its loop keeps the least value of the next one and the sums of those passed, which fit as a record's
-- times do. Assumes nothing.
use Prim.Native.Nat.{◌-◌}
use Rattle.refusals.specs.Refusals.{number_of}
use Rattle.journal.proofs.RuleLoop.{Numbering}
use Rattle.journal.proofs.section.numbers_at.Given as goal

abbrev pub invariant-loop-i : goal.invariant-loop-i
invariant-loop-i l = Numbering l.b l.at l.n l.width l.high l.rising (number_of l.refusal) l.initial.low l.low l.sum l.squares l.next (l.n - l.i)
