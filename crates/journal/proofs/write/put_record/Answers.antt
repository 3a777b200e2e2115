-- `put_record` takes one step after another to the budget's end. The measure is how many bytes are left.
-- Assumes nothing.
use mathlib.Core.Path.{refl}
use native.Mathlib.Omega.{arith}
use Rattle.journal.proofs.Filling.{filled_none, filled_more}
use Rattle.journal.proofs.write.put_record.Goals as goal

pub loop-p-init : goal.loop-p-init
loop-p-init c = (filled_none _ _ _ (omega arith) (omega arith) refl, omega arith)

pub loop-p-preserved : goal.loop-p-preserved
loop-p-preserved c =
    let asked = c.requires in
    let s = c.step-p.ensures in
    (filled_more _ _ _ _ _ _ _ c.loop-p.invariant.0 (omega (arith, asked.0)) (omega (arith, asked.1)) s, omega (arith, s.place))
