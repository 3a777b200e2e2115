-- `print_line` lends out what the line takes of its buffer, to be gathered, and hands the cursor on.
-- Assumes nothing.
use mathlib.Core.Path.{sym}
use lib.Seq.{length-take-le}
use Rattle.journal_listing.proofs.Falling.{line_inside}
use Rattle.command_list.proofs.listing.print_line.Goals as goal

pub slice_bounds-out-end : goal.slice_bounds-out-end
slice_bounds-out-end c = line_inside _ _ _ _ c.next_line-line.ensures

pub slice_bounds-gather-end : goal.slice_bounds-gather-end
slice_bounds-gather-end c =
    let line = c.next_line-line in
    sym (length-take-le line.result.size _ (line_inside _ _ _ _ line.ensures))
