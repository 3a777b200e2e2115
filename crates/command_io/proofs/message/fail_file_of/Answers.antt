-- `fail_file_of` lends out what the path takes of its room.
-- Assumes nothing.
use Rattle.std.proofs.Common.{sym, length-take-le}
use Rattle.command_io.proofs.Storing.{put_inside}
use Rattle.command_io.proofs.message.fail_file_of.Goals as goal

pub slice_bounds-line-end : goal.slice_bounds-line-end
slice_bounds-line-end c = put_inside _ _ _ _ c.put_shown-size.ensures

pub slice_bounds-fail_system-end : goal.slice_bounds-fail_system-end
slice_bounds-fail_system-end c =
    let shown = c.put_shown-size in
    sym (length-take-le shown.result _ (put_inside _ _ _ _ shown.ensures))
