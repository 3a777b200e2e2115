-- `limit_for` goes over the quotes: the limit is that among those from the one at hand on. Assumes nothing.
use mathlib.Core.Path.{◌≡◌}
use Rattle.journal_report.specs.Slot.{limit_for}
use Rattle.journal_report.proofs.Quoting.{quotes_in, quotes_from}
use Rattle.journal_report.proofs.quotes.Quotes.limit_for.Given as goal

abbrev pub invariant-loop-i : goal.invariant-loop-i
invariant-loop-i l =
    let q = l.self-inside in
    limit_for l.wanted (quotes_in q.bytes.now q.count q.chances q.limits) ≡ limit_for l.wanted (quotes_from q.bytes.now q.count q.chances q.limits l.i)
