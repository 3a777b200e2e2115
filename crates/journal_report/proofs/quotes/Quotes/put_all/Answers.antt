-- `put_all` puts one quote a turn, by the invariant. Assumes nothing.
use native.Mathlib.Omega.{arith}
use Rattle.text_digits.proofs.Putting.{put_as}
use Rattle.journal_listing.proofs.Pairs.{pairs_turn, pairs_end}
use Rattle.journal_report.proofs.Quoting.{columns_quoted}
use Rattle.journal_report.proofs.quotes.Quotes.put_all.Goals as goal

pub loop-i-preserved : goal.loop-i-preserved
loop-i-preserved c =
    pairs_turn _ _ _ _ _ _ _ _ _ _ c.loop-i.invariant _ _ _ _ (omega arith) c.number_at-chance.ensures.0 c.number_at-limit.ensures.0
    c.put_limit-p.ensures

pub returns : goal.returns
returns c =
    rw (← c.self.view_is)
    (put_as _ _ _ _ _ _ (columns_quoted _ _ _ _ _) (pairs_end _ _ _ _ _ _ _ _ _ _ c.loop-i.invariant (omega arith)))
