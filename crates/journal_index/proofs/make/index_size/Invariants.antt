-- `index_size` goes over the entries and adds up their sizes. Assumes nothing.
use Rattle.journal_index.proofs.Making.{Sizing}
use Rattle.journal_index.proofs.make.index_size.Given as goal

abbrev pub invariant-loop-at : goal.invariant-loop-at
invariant-loop-at l = Sizing l.b l.places l.size l.at-index
