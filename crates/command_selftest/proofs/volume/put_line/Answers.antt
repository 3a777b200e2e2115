-- `put_line` lends out what the line takes of its buffer.
-- Assumes nothing.
use mathlib.Core.Path.{sym}
use lib.Seq.{length-take-le}
use Rattle.journal_listing.proofs.Falling.{line_inside}
use Rattle.command_selftest.proofs.volume.put_line.Goals as goal

pub slice_bounds-text-end : goal.slice_bounds-text-end
slice_bounds-text-end c = line_inside _ _ _ _ c.next_line-line.ensures

pub slice_bounds-put-end : goal.slice_bounds-put-end
slice_bounds-put-end c =
    let line = c.next_line-line in
    sym (length-take-le line.result.size _ (line_inside _ _ _ _ line.ensures))
