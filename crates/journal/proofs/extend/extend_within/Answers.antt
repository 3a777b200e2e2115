-- `extend_within` takes the record's length for its room, and lends the slice from the committed length on to the writer.
-- Assumes nothing.
use mathlib.Core.Path.{refl}
use Rattle.journal.proofs.Extending.{room_declined, room_extended}
use mathlib.Core.Path.{ap}
use mathlib.Core.Bool.{not}
use Rattle.journal.proofs.extend.extend_within.Goals as goal

pub returns-then-not-has_room : goal.returns-then-not-has_room
returns-then-not-has_room c len = room_declined _ _ _ _ _ refl _ c.has_room.ensures (ap not c.if-not-has_room.true)

pub returns : goal.returns
returns c len =
    let put = c.put_record-n.ensures in
    room_extended _ _ _ _ refl _ c.has_room.ensures (ap not c.if-not-has_room.false) _ _ _ _ c.end_of-end.ensures put.value put.filled
