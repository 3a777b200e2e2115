-- `slot_line` writes the line of the record whose sections stand, and else none.
-- Assumes nothing.
use mathlib.Core.Path.{◌≡◌}
use Rattle.std.specs.Prelude.{Some, None}
use Rattle.text_digits.proofs.Putting.{put_nothing, put_as}
use Rattle.journal_parts.specs.Spans.{spans_at, all_of}
use Rattle.journal_report.proofs.Slots.{slot_none, slot_there}
use Rattle.journal_report.proofs.slot.slot_line.Goals as goal

pub returns-in_default : goal.returns-in_default
returns-in_default c =
    let none : all_of (spans_at c.args.at c.args.v.now) ≡ None = cc in
    put_as _ _ _ _ _ _ (slot_none _ _ _ _ _ none) (put_nothing _ _)

pub put_slot-requires : goal.put_slot-requires
put_slot-requires c = cc

pub returns : goal.returns
returns c =
    let stand : all_of (spans_at c.args.at c.args.v.now) ≡ Some c.in-Some.s = cc in
    put_as _ _ _ _ _ _ (slot_there _ _ _ _ _ _ stand) c.put_slot.ensures
