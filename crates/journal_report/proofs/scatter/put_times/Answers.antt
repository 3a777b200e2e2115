-- `put_times` puts the number of times, made in an array first.
-- Assumes nothing.
use mathlib.Core.Path.{ap}
use native.Mathlib.Omega.{arith}
use Rattle.text_digits.proofs.Putting.{put_as}
use Rattle.journal_report.specs.Slot.{column, times_width}
use Rattle.journal_report.proofs.Columns.{put_whole, put_inside, taken_length}
use Rattle.journal_report.proofs.Slots.{times_fit}
use Rattle.journal_report.proofs.scatter.put_times.Goals as goal

pub slice_bounds-text-end : goal.slice_bounds-text-end
slice_bounds-text-end c = put_inside _ _ _ _ c.put_decimal-size.ensures

pub slice_bounds-put_column-end : goal.slice_bounds-put_column-end
slice_bounds-put_column-end c = taken_length _ _ (put_inside _ _ _ _ c.put_decimal-size.ensures)

pub returns : goal.returns
returns c =
    let a = c.args in
    put_as _ _ _ _ _ _
    (ap (column a.tabs times_width) (put_whole _ _ _ _ (times_fit a.count (omega arith)) c.put_decimal-size.ensures))
    c.put_column.ensures
