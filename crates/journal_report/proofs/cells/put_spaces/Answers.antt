-- `put_spaces` puts one space a turn, by the invariant. Assumes nothing.
use native.Mathlib.Omega.{arith}
use Rattle.journal_report.proofs.Columns.{spaces_start, spaces_turn, spaces_end}
use Rattle.journal_report.proofs.cells.put_spaces.Goals as goal

pub loop-init : goal.loop-init
loop-init c = spaces_start _ _ _

pub loop-preserved : goal.loop-preserved
loop-preserved c = spaces_turn _ _ _ _ _ _ c.loop.invariant _ _ (omega arith) c.put-p.ensures

pub returns : goal.returns
returns c = spaces_end _ _ _ _ _ _ c.loop.invariant (omega arith)
