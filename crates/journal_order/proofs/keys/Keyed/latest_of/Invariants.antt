-- `latest_of` enters one record's place a turn. The measure is what is left of the bytes. Assumes nothing.
use Prim.Native.Nat.{◌-◌}
use lib.ListN.{length}
use Rattle.journal_order.specs.Keys.{key_at}
use Rattle.journal_order.proofs.Gathering.{Gathering}
use Rattle.journal_order.proofs.keys.Keyed.latest_of.Given as goal

abbrev pub invariant-loop-at : goal.invariant-loop-at
invariant-loop-at l = Gathering (key_at l.self.key l.self.bytes.now) l.self.bytes.now l.initial.places l.places l.count l.at

abbrev pub decreases-loop-at : goal.decreases-loop-at
decreases-loop-at l = length l.self.bytes.now - l.at
