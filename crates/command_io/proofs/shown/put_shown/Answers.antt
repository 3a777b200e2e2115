-- `put_shown` shows one byte after another.
-- Assumes nothing.
use Rattle.std.proofs.Common.{refl, arith}
use Rattle.command_io.proofs.Showing.{showing_starts, showing_turn, showing_ends}
use Rattle.command_io.proofs.shown.put_shown.Goals as goal

pub loop-c-init : goal.loop-c-init
loop-c-init c = (refl, showing_starts _ _ _)

pub loop-c-preserved : goal.loop-c-preserved
loop-c-preserved c = (omega arith, showing_turn _ _ _ _ _ _ _ _ (omega arith) c.loop-c.invariant.1 c.put_shown_byte-at.ensures)

pub returns : goal.returns
returns c = showing_ends _ _ _ _ _ _ (omega arith) c.loop-c.invariant.1
