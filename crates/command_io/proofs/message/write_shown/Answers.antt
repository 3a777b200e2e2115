-- `write_shown` lends out what the text takes of its room.
-- Assumes nothing.
use Rattle.std.proofs.Common.{sym, length-take-le}
use Rattle.command_io.proofs.Storing.{put_inside}
use Rattle.command_io.proofs.message.write_shown.Goals as goal

pub slice_bounds-line-end : goal.slice_bounds-line-end
slice_bounds-line-end c = put_inside _ _ _ _ c.put_shown-size.ensures

pub slice_bounds-write_error-end : goal.slice_bounds-write_error-end
slice_bounds-write_error-end c =
    let shown = c.put_shown-size in
    sym (length-take-le shown.result _ (put_inside _ _ _ _ shown.ensures))
