-- `open` moves nothing where the name is there.
-- Assumes nothing.
use mathlib.Core.Path.{sym, ◌∙◌}
use Prim.Native.Nat.{◌+◌, ◌≤◌}
use lib.ListN.{length}
use Rattle.journal_entries.proofs.Opening.{copied_written, open_kept, open_moved, place_in, room_in}
use Rattle.journal_entries.proofs.amending.open.Goals as goal
use Rattle.journal_entries.proofs.amending.open.Goals.{In-Err}

within : (c : In-Err) → (c.in-Err.place ≤ c.args.end.place) × (c.args.end.place + c.args.size ≤ length c.args.index.now)
within c = let p = c.requires in (place_in _ _ _ c.in-Err.is p.place_le_place.0, room_in _ _ _ c.in-Err.is p.size_in_bounds)

pub returns-in-Ok : goal.returns-in-Ok
returns-in-Ok c = open_kept _ _ _ _ _ c.in-Ok.is

pub shift-requires : goal.shift-requires
shift-requires c = within (goal.at.shift-requires c).In-Err

pub returns-in-Err : goal.returns-in-Err
returns-in-Err c =
    let w = within (goal.at.returns-in-Err c).In-Err in
    open_moved _ _ _ _ _ _ c.in-Err.is w.0 (c.requires.place_le_place.1) (c.shift.ensures ∙ sym (copied_written _ _ _ _ w.0 (c.requires.place_le_place.1)))
