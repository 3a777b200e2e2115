-- `put_spaces` puts one space a turn. The invariant is `Spaces`. Assumes nothing.
use Rattle.journal_report.proofs.Columns.{Spaces}
use Rattle.journal_report.proofs.cells.put_spaces.Given as goal

abbrev pub invariant-loop : goal.invariant-loop
invariant-loop l = Spaces l.n l.initial.out l.place l.out l.p l.counter
