-- `amend` makes room where the name has no entry, then writes the entry and the count.
-- Assumes nothing.
use mathlib.Core.Path.{◌≡◌, refl, sym, ◌∙◌}
use Prim.Native.Nat.{◌≤◌}
use native.Mathlib.Omega.{arith}
use lib.ListN.{length}
use borrow.Author.Tests.{leb-true}
use Rattle.journal_spec.specs.Bytes.{AreBytes}
use Rattle.journal_spec.specs.Index.{IndexEntry}
use Rattle.journal_spec.proofs.Numbers.{are_bytes}
use Rattle.journal_entries.specs.Places.{place_of}
use Rattle.journal_entries.specs.Amending.{next_bytes}
use Rattle.journal_entries.proofs.Amended.{amend_none, place_among, opening, opening_room, amend_written}
use Rattle.journal_entries.proofs.Opening.{place_either}
use Rattle.journal_entries.proofs.amending.amend.Goals as goal
use Rattle.journal_entries.proofs.amending.amend.Goals.{After-end_of-end, in-Ok, in-Ok-2}

-- the entry that is offered, its room, and the buffer's bytes
abbrev new_of : After-end_of-end → IndexEntry
new_of c = record { name = c.args.name.now; start = c.args.start }

room : (c : After-end_of-end) → length (next_bytes (new_of c) c.args.index.now) ≤ length c.args.index.now
room c = leb-true _ _ (sym (c.has_room.ensures c.args.start) ∙ c.if-not-has_room.false)

bytes : (c : After-end_of-end) → AreBytes c.args.index.now
bytes c = are_bytes c.args.index.now (λ i. omega (arith, c.slice_known-1.given i))

pub returns-then-not-has_room : goal.returns-then-not-has_room
returns-then-not-has_room c = amend_none _ _ (sym (c.has_room.ensures _) ∙ c.if-not-has_room.true)

pub open-count-requires-clause-place_le_place : goal.open-count-requires-clause-place_le_place
open-count-requires-clause-place_le_place c =
    let a = (goal.at.open-count-requires-clause-place_le_place c).After-end_of-end in
    let o = opening _ (new_of a) _ _ a.find-found.ensures a.end_of-end.ensures (bytes a) (room a) in
    (place_among _ (new_of a) _ _ a.find-found.ensures a.end_of-end.ensures, o.0, o.1)

pub open-count-requires-clause-size_in_bounds : goal.open-count-requires-clause-size_in_bounds
open-count-requires-clause-size_in_bounds c =
    let a = (goal.at.open-count-requires-clause-size_in_bounds c).After-end_of-end in
    opening_room _ (new_of a) _ _ a.find-found.ensures a.end_of-end.ensures (bytes a) (room a)

pub returns : goal.returns
returns c =
    let a = (goal.at.returns c).After-end_of-end in
    let p : place_of c.find-found.result ≡ c.match-found.place =
    elim c.match-found.branch [ in-Ok w ↦ place_either _ _ w.in-Ok.is ∙ sym w.place-is | in-Ok-2 w ↦ place_either _ _ w.in-Ok.is ∙ sym w.place-is ] in
    amend_written _ (new_of a) _ _ a.find-found.ensures a.end_of-end.ensures (bytes a) (room a) _ _ _ refl
    c.open-count.ensures _ _ _ _ _ p (omega arith) c.put_entry.ensures c.put_count.ensures
