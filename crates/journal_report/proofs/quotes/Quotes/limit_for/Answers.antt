-- `limit_for` goes over the quotes, by the invariant. Assumes nothing.
use native.Mathlib.Omega.{arith}
use Rattle.journal_report.proofs.Quoting.{sought_turn, sought_found, sought_none}
use Rattle.journal_report.proofs.quotes.Quotes.limit_for.Goals as goal

pub returns-then-number_at-wanted : goal.returns-then-number_at-wanted
returns-then-number_at-wanted c =
    rw (← c.self.view_is)
    (sought_found _ _ _ _ _ _ c.loop-i.invariant _ _ (omega arith) c.number_at.ensures.0 c.if-number_at-wanted.true c.number_at-then-number_at-wanted.ensures.0)

pub loop-i-preserved : goal.loop-i-preserved
loop-i-preserved c = sought_turn _ _ _ _ _ _ c.loop-i.invariant _ (omega arith) c.number_at.ensures.0 c.if-number_at-wanted.false

pub returns : goal.returns
returns c = rw (← c.self.view_is) (sought_none _ _ _ _ _ _ c.loop-i.invariant (omega arith))
