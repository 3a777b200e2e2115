-- `text_dates::date::in_month` meets its contract: a turn counts a whole month off. The measure is the days that are left.
-- Assumes nothing.
use Rattle.text_dates.proofs.Loops.{MonthsOff}
use Rattle.text_dates.proofs.date.in_month.Given as goal

abbrev pub invariant-loop-left : goal.invariant-loop-left
invariant-loop-left l = MonthsOff l.year l.count l.first.year l.first.month l.left

abbrev pub decreases-loop-left : goal.decreases-loop-left
decreases-loop-left l = l.left
