-- `put_all` puts one quote a turn. The invariant is `Pairs`. Assumes nothing.
use Rattle.journal_listing.proofs.Pairs.{Pairs}
use Rattle.journal_report.proofs.Quoting.{quote_column}
use Rattle.journal_report.proofs.quotes.Quotes.put_all.Given as goal

abbrev pub invariant-loop-i : goal.invariant-loop-i
invariant-loop-i l =
    let q = l.self-inside in
    Pairs (quote_column l.tabs) q.bytes.now q.chances q.limits q.count l.initial.out l.place l.out l.p l.i
