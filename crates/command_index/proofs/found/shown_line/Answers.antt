-- `shown_line` lends as many bytes as there are.
-- Assumes nothing.
use mathlib.Core.Path.{sym}
use native.Mathlib.Omega.{arith}
use lib.Seq.{length-take-le}
use Rattle.journal_listing.proofs.Putting.{put_as}
use Rattle.command_index.proofs.Looking.{all_shown}
use Rattle.command_index.proofs.found.shown_line.Goals as goal

pub returns-then-b-size : goal.returns-then-b-size
returns-then-b-size c =
    let p = c.args in
    put_as _ _ _ _ _ _ (all_shown p.b.now p.size (omega arith)) c.first_line.ensures

pub slice_bounds-first_line-end : goal.slice_bounds-first_line-end
slice_bounds-first_line-end c = sym (length-take-le _ _ (omega arith))
