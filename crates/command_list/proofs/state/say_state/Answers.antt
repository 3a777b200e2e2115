-- `say_state` lends out what the line takes of its buffer.
-- Assumes nothing.
use mathlib.Core.Path.{sym}
use lib.Seq.{length-take-le}
use Rattle.command_io.proofs.Storing.{put_inside}
use Rattle.command_list.proofs.state.say_state.Goals as goal

pub slice_bounds-out-end : goal.slice_bounds-out-end
slice_bounds-out-end c = put_inside _ _ _ _ c.state_line-size.ensures

pub slice_bounds-say_last-end : goal.slice_bounds-say_last-end
slice_bounds-say_last-end c =
    let line = c.state_line-size in
    sym (length-take-le line.result _ (put_inside _ _ _ _ line.ensures))
