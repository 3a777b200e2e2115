-- `shift` moves one place a turn, the last one first.
-- Assumes nothing.
use native.Mathlib.Omega.{arith}
use Rattle.journal_entries.proofs.Opening.{moving_start, moving_next, moving_done}
use Rattle.journal_order.proofs.putting.shift.Goals as goal

pub loop-i-init : goal.loop-i-init
loop-i-init c = moving_start _ _ _ _ (omega arith) (omega arith)

pub loop-i-preserved : goal.loop-i-preserved
loop-i-preserved c = moving_next _ _ _ _ (omega arith) (omega arith) _ _ c.loop-i.invariant (omega arith)

pub returns : goal.returns
returns c = moving_done _ _ _ _ (omega arith) (omega arith) _ _ c.loop-i.invariant (omega arith)
