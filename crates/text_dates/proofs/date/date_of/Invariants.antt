-- `text_dates::date::date_of` meets its contract: a turn counts a whole year off. The measure is the days that are left.
-- Assumes nothing.
use Rattle.text_dates.proofs.Loops.{YearsOff}
use Rattle.text_dates.proofs.date.date_of.Given as goal

abbrev pub invariant-loop-left : goal.invariant-loop-left
invariant-loop-left l = YearsOff l.day l.year l.left

abbrev pub decreases-loop-left : goal.decreases-loop-left
decreases-loop-left l = l.left
