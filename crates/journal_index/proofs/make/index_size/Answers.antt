-- `index_size` goes over the entries and adds up their sizes. Assumes nothing.
use Prim.Native.Nat.{◌+◌, ◌≤◌}
use native.Mathlib.Omega.{arith}
use lib.ListN.{length}
use Rattle.journal_spec.specs.Index.{index_bytes}
use Rattle.journal_index.specs.Standing.{index_in}
use Rattle.journal_index.proofs.Making.{size_most, sizing_start, sizing_next, sizing_fits, sizing_end}
use Rattle.journal_index.proofs.make.index_size.Goals as goal

pub loop-at-init : goal.loop-at-init
loop-at-init c = sizing_start _ _

pub overflow_add-size-in-loop-at : goal.overflow_add-size-in-loop-at
overflow_add-size-in-loop-at c =
    let l = c.loop-at in
    let fits : l.size + (6 + length c.name_at.result.now) ≤ length (index_bytes (index_in c.args.b.now)) =
    rw c.name_at.ensures (sizing_fits _ _ c.requires l.size l.at-index l.invariant (omega arith)) in
    omega (arith, fits, size_most c.args.b.now c.requires.whole, c.requires.whole.short)

pub loop-at-preserved : goal.loop-at-preserved
loop-at-preserved c = let l = c.loop-at in rw c.name_at.ensures (sizing_next _ _ c.requires l.size l.at-index l.invariant (omega arith))

pub returns : goal.returns
returns c = let l = c.loop-at in sizing_end _ _ c.requires l.size l.at-index l.invariant (omega arith)
