-- `index_refusal` asks whether the index is the records', and then whether the buffer has room for the amended one.
-- Assumes nothing.
use Rattle.journal_index.proofs.Room.{not_own, no_room, some_room}
use mathlib.Core.Path.{ap}
use mathlib.Core.Bool.{not}
use Rattle.journal_index.proofs.append.index_refusal.Goals as goal

pub returns-then-not-is_own : goal.returns-then-not-is_own
returns-then-not-is_own c start = not_own _ _ _ c.requires start c.is_own.result c.is_own.ensures (ap not c.if-not-is_own.true)

pub returns-then-not-has_room : goal.returns-then-not-has_room
returns-then-not-has_room c start =
    no_room _ _ _ c.requires start c.is_own.result c.is_own.ensures (ap not c.if-not-is_own.false)
    c.has_room.result (c.has_room.ensures start) (ap not c.if-not-has_room.true)

pub returns : goal.returns
returns c start =
    some_room _ _ _ c.requires start c.is_own.result c.is_own.ensures (ap not c.if-not-is_own.false)
    c.has_room.result (c.has_room.ensures start) (ap not c.if-not-has_room.false)
