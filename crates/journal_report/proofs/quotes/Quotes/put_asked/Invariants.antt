-- `put_asked` puts one chance's quote a turn. The invariant is `Asked`. Assumes nothing.
use Rattle.journal_report.proofs.Quoting.{Asked}
use Rattle.journal_report.proofs.quotes.Quotes.put_asked.Given as goal

abbrev pub invariant-loop-asked_for : goal.invariant-loop-asked_for
invariant-loop-asked_for l = Asked l.tabs l.asked l.self l.initial.out l.place l.out l.p l.asked_for-index
