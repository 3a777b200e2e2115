-- `record_line` writes the line of the record whose sections stand, and else none.
-- Assumes nothing.
use mathlib.Core.Path.{◌≡◌}
use Prim.Native.Nat.{◌-◌}
use Rattle.std.specs.Prelude.{Some, None}
use Rattle.journal_parts.specs.Spans.{spans_at, all_of}
use Rattle.journal_listing.specs.Lines.{position_of}
use Rattle.journal_listing.proofs.Steps.{writes_none, step_short, step_stands}
use Rattle.journal_listing.proofs.record_line.Goals as goal

pub returns-in_default : goal.returns-in_default
returns-in_default c =
    let a = c.args in
    let none : all_of (spans_at a.cursor.at a.v.now) ≡ None = cc in
    rw (step_short (position_of a.cursor) (a.cursor.left - 1) a.cursor.at a.v.now none)
    (writes_none (position_of a.cursor) a.out.now c.no_line.result c.no_line.ensures.size c.no_line.ensures.cursor)

pub put_record-size-requires : goal.put_record-size-requires
put_record-size-requires c = cc

pub returns : goal.returns
unfolding position_of
returns c =
    let a = c.args in
    let stand : all_of (spans_at a.cursor.at a.v.now) ≡ Some c.in-Some.s = cc in
    rw (step_stands (position_of a.cursor) (a.cursor.left - 1) a.cursor.at a.v.now c.in-Some.s stand)
    (record { bytes = c.put_record-size.ensures; position = rw c.past_record.ensures })
