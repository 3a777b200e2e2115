-- `store_at` writes eight bytes where they have room, and else leaves the buffer as it is. Assumes nothing.
use Rattle.std.proofs.Common.{◌+◌, refl, ◌∙◌, arith}
use Rattle.replay_cases.proofs.Filling.{no_room, part_filled}
use Rattle.replay_cases.proofs.store.store_at.Goals as goal
use Rattle.replay_cases.proofs.store.store_at.Goals.{else-v-ge8-via-then-v-ge8+else-place-v, else-v-ge8-via-else-v-ge8}

pub returns-then-place-v : goal.returns-then-place-v
returns-then-place-v c =
    let a = c.args in
    part_filled a.place a.n (a.place + 8) a.v.now _ refl (omega arith) (c.copy_from_slice.ensures.after ∙ c.to_be_bytes.ensures)

pub returns-else-v-ge8 : goal.returns-else-v-ge8
returns-else-v-ge8 c =
    let a = c.args in
    no_room a.place a.n a.v.now
    (elim c.else-v-ge8.branch [ else-v-ge8-via-then-v-ge8+else-place-v w ↦ omega arith | else-v-ge8-via-else-v-ge8 w ↦ omega arith ])
