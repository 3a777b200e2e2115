-- `latest_of` enters one record's place a turn. The measure is what is left of the bytes. Assumes nothing.
use mathlib.Core.Path.{◌≡◌, ap, ◌∙◌}
use Prim.Native.Nat.{◌+◌, ◌≤◌}
use native.Mathlib.Omega.{arith}
use lib.ListN.{length, drop}
use Rattle.journal_parts.specs.Front.{record_size}
use Rattle.journal_parts.proofs.Front.{from_place}
use Rattle.journal_order.proofs.Gathering.{gathering_start, gathering_room, gathering_inside, gathering_next, gathering_end}
use Rattle.journal_order.proofs.keys.Keyed.latest_of.Goals as goal
use Rattle.journal_order.proofs.keys.Keyed.latest_of.Goals.{After-record_size-at}

pub loop-at-init : goal.loop-at-init
loop-at-init c = gathering_start _ _ _ c.requires.0

pub enter-count-requires : goal.enter-count-requires
enter-count-requires c =
    let l = c.loop-at in
    (gathering_room _ _ _ _ _ _ l.invariant c.requires.0.short c.requires.1 (omega arith), l.invariant.latest.climbs)

-- the record's size
size : (c : After-record_size-at) → c.record_size-at.result ≡ record_size (drop c.loop-at.at c.args.self.now.bytes.now)
size c = c.record_size-at.ensures ∙ ap record_size (from_place c.args.self.now.bytes.now c.loop-at.at)

inside : (c : After-record_size-at) → (c.loop-at.at + c.record_size-at.result ≤ length c.args.self.now.bytes.now) × (33 ≤ c.record_size-at.result)
inside c =
    let l = c.loop-at in
    rw (size c) (gathering_inside _ _ _ _ _ l.at l.invariant c.requires.0.short c.requires.1 (omega arith))

pub overflow_add-at : goal.overflow_add-at
overflow_add-at c = omega (arith, inside (goal.at.overflow_add-at c).After-record_size-at)

pub loop-at-smaller : goal.loop-at-smaller
loop-at-smaller c = omega (arith, inside (goal.at.loop-at-smaller c).After-record_size-at)

pub loop-at-preserved : goal.loop-at-preserved
loop-at-preserved c =
    let l = c.loop-at in
    let e = c.enter-count.ensures in
    rw (size (goal.at.loop-at-preserved c).After-record_size-at)
    (gathering_next _ _ _ _ _ _ l.invariant c.requires.0.short c.requires.1 (omega arith) _ _ e.latest_of e.upper_bound.0 e.upper_bound.1)

pub returns-clause-latest_of : goal.returns-clause-latest_of
returns-clause-latest_of c = gathering_end _ _ _ _ _ _ c.loop-at.invariant c.requires.0.short c.requires.1 (omega arith)
