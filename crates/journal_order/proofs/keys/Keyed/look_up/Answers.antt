-- `look_up` splits the places at the key, and looks at the last one before the split. Assumes nothing.
use Rattle.journal_order.proofs.Searching.{looked_none, looked_one}
use Rattle.journal_order.proofs.keys.Keyed.look_up.Goals as goal

pub returns-then-not-ends_with : goal.returns-then-not-ends_with
returns-then-not-ends_with c = looked_none _ _ _ _ c.upto-n.ensures _ c.ends_with.ensures c.requires c.if-not-ends_with.true

pub returns : goal.returns
returns c = looked_one _ _ _ _ c.upto-n.ensures _ c.ends_with.ensures _ c.if-not-ends_with.false c.from.ensures
