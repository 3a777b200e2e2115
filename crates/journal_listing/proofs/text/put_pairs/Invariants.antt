-- `put_pairs` meets its contract. The invariant is `Pairs`. Assumes nothing.
use Rattle.journal_listing.proofs.Pairs.{quoted_text, Pairs}
use Rattle.journal_listing.proofs.text.put_pairs.Given as goal

abbrev pub invariant-loop-i : goal.invariant-loop-i
invariant-loop-i l = Pairs quoted_text l.b l.chances l.limits l.n l.initial.out l.at l.out l.place l.i
