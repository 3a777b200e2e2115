-- `next_line` writes no line after the last, the end state's line where no record is left, and else the record's.
-- Assumes nothing.
use Rattle.journal_listing.specs.Lines.{position_of}
use Rattle.journal_listing.proofs.Steps.{writes_none, step_ended, step_state, step_record}
use native.Mathlib.Omega.{arith}
use Rattle.journal_listing.proofs.next_line.Goals as goal

pub returns-then-cursor : goal.returns-then-cursor
returns-then-cursor c =
    let a = c.args in
    rw (step_ended a.cursor a.v.now c.if-cursor.true)
    (writes_none (position_of a.cursor) a.out.now c.no_line.result c.no_line.ensures.size c.no_line.ensures.cursor)

pub returns-then-cursor-eq0 : goal.returns-then-cursor-eq0
returns-then-cursor-eq0 c =
    let a = c.args in
    rw (step_state a.cursor a.v.now c.if-cursor.false c.if-cursor-eq0.true)
    (record { bytes = c.put_state-size.ensures; position = c.at_end.ensures })

pub returns : goal.returns
returns c =
    let a = c.args in
    rw (step_record a.cursor a.v.now c.if-cursor.false (omega arith))
    c.record_line.ensures
