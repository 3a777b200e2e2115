-- `enter` splits the places at the key, and replaces the last one before the split where it has the key. Assumes nothing.
use mathlib.Core.Path.{◌≡◌, ap, ◌∙◌}
use native.Mathlib.Omega.{arith}
use Rattle.journal_order.specs.Keys.{key_at}
use Rattle.journal_order.proofs.Entering.{climbs_rises, entered_own, entered_new}
use Rattle.journal_order.proofs.keys.Keyed.enter.Goals as goal
use Rattle.journal_order.proofs.keys.Keyed.enter.Goals.{After-upto-n}

pub upto-n-requires : goal.upto-n-requires
upto-n-requires c = climbs_rises _ _ c.requires.1

-- the key is that of the place
own : (c : After-upto-n)
    → let s = c.args.self.now in
    c.key_at-key.result.now ≡ key_at s.key s.bytes.now c.args.place
own c = let s = c.args.self.now in c.key_at-key.ensures ∙ ap (key_at s.key s.bytes.now) c.from.ensures

pub returns-then-ends_with-clause-latest_of : goal.returns-then-ends_with-clause-latest_of
returns-then-ends_with-clause-latest_of c =
    entered_own _ c.args.places.now c.args.count c.upto-n.result c.args.place _ (omega arith)
    (own (goal.at.returns-then-ends_with-clause-latest_of c).After-upto-n) c.requires.1 c.upto-n.ensures _ c.ends_with.ensures c.if-ends_with.true

pub returns-clause-latest_of : goal.returns-clause-latest_of
returns-clause-latest_of c =
    entered_new _ c.args.places.now c.args.count c.upto-n.result c.args.place _ (omega arith)
    (own (goal.at.returns-clause-latest_of c).After-upto-n) c.requires.1 c.upto-n.ensures _ c.ends_with.ensures c.if-ends_with.false _ c.insert.ensures
