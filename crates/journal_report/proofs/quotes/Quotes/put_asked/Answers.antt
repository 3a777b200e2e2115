-- `put_asked` puts one chance's quote a turn, by the invariant. Assumes nothing.
use native.Mathlib.Omega.{arith}
use Rattle.journal_report.proofs.Quoting.{asked_turn, asked_end}
use Rattle.journal_report.proofs.quotes.Quotes.put_asked.Goals as goal

pub loop-asked_for-preserved : goal.loop-asked_for-preserved
loop-asked_for-preserved c =
    asked_turn _ _ _ _ _ _ _ _ c.loop-asked_for.invariant _ _ _ _ (omega arith) c.from-chance.ensures c.limit_for-limit.ensures c.put_limit-p.ensures

pub returns : goal.returns
returns c = asked_end _ _ _ _ _ _ _ _ c.loop-asked_for.invariant (omega arith)
