-- `put_index` puts an entry a turn behind those before it, and their count last. Assumes nothing.
use native.Mathlib.Omega.{arith}
use Rattle.journal_index.proofs.Making.{putting_start, putting_turn, putting_end}
use Rattle.journal_index.proofs.make.put_index.Goals as goal

pub loop-at-init : goal.loop-at-init
loop-at-init c = putting_start _ _ _

pub loop-at-preserved : goal.loop-at-preserved
loop-at-preserved c =
    let l = c.loop-at in
    putting_turn _ _ _ _ l.n l.at-index c.requires.0 c.requires.1 l.invariant (omega arith) _ _
    (rw (c.name_at.ensures, c.from.ensures) at c.put_entry-n.ensures)

pub returns : goal.returns
returns c =
    let l = c.loop-at in
    (putting_end _ _ _ _ l.n l.at-index c.requires.0 c.requires.1 l.invariant (omega arith) _ _ c.put_count.ensures).0
