-- `put_index` puts an entry a turn behind those before it, and their count last. Assumes nothing.
use Rattle.journal_index.proofs.Making.{Putting}
use Rattle.journal_index.proofs.make.put_index.Given as goal

abbrev pub invariant-loop-at : goal.invariant-loop-at
invariant-loop-at l = Putting l.b l.places l.initial.out l.out l.n l.at-index
