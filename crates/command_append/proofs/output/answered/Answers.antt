-- `answered` lends out what the line takes of its buffer.
-- Assumes nothing.
use Rattle.std.proofs.Common.{sym, length-take-le}
use Rattle.command_io.proofs.Storing.{put_inside}
use Rattle.command_append.proofs.output.answered.Goals as goal

pub slice_bounds-out-end : goal.slice_bounds-out-end
slice_bounds-out-end c = put_inside _ _ _ _ c.verdict_line-size.ensures

pub slice_bounds-print_verdict-end : goal.slice_bounds-print_verdict-end
slice_bounds-print_verdict-end c =
    let line = c.verdict_line-size in
    sym (length-take-le line.result _ (put_inside _ _ _ _ line.ensures))
