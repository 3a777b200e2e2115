-- `text_dates::date::in_month` meets its contract: the month after is reached by its days. Assumes nothing.
use native.Mathlib.Omega.{arith}
use Rattle.text_dates.proofs.Loops.{months_turn}
use Rattle.text_dates.proofs.date.in_month.Goals as goal

pub loop-left-preserved : goal.loop-left-preserved
loop-left-preserved c = rw (c.month_after-first.ensures, c.month_days-left.ensures) (months_turn _ _ _ _ _ c.loop-left.invariant (omega arith))
