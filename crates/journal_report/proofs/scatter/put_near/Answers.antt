-- `put_near` puts whole ticks in milliseconds, made in an array first.
-- Assumes nothing.
use mathlib.Core.Path.{ap}
use Rattle.text_digits.proofs.Putting.{put_as}
use Rattle.journal_report.specs.Slot.{column, moment_width, near_text}
use Rattle.journal_report.proofs.Columns.{put_whole, put_inside, taken_length}
use Rattle.journal_report.proofs.Slots.{near_fits}
use Rattle.journal_report.proofs.scatter.put_near.Goals as goal

pub slice_bounds-text-end : goal.slice_bounds-text-end
slice_bounds-text-end c = put_inside _ _ _ _ c.put_ticks-size.ensures

pub slice_bounds-put_column-end : goal.slice_bounds-put_column-end
slice_bounds-put_column-end c = taken_length _ _ (put_inside _ _ _ _ c.put_ticks-size.ensures)

pub returns : goal.returns
unfolding near_text
returns c =
    let a = c.args in
    let text = rw c.ticks_near.ensures at c.put_ticks-size.ensures in
    put_as _ _ _ _ _ _ (ap (column a.tabs moment_width) (put_whole _ _ _ _ (near_fits a.bits) text)) c.put_column.ensures
