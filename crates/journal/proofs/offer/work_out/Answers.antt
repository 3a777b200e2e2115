-- `work_out` works one limit out a turn and keeps its bits.
-- Assumes nothing.
use native.Mathlib.Omega.{arith}
use Rattle.limit.specs.Answer.{moments_meaning}
use Rattle.journal.proofs.WorkedOut.{kept_start, kept_more}
use Rattle.journal.proofs.offer.work_out.Goals as goal

pub loop-i-init : goal.loop-i-init
loop-i-init c = kept_start (moments_meaning c.args.worked) c.args.chances.now c.args.bits.now c.requires.1

pub loop-i-preserved : goal.loop-i-preserved
loop-i-preserved c =
    let l = c.loop-i in
    let a = c.args in
    kept_more (moments_meaning a.worked) a.chances.now l.bits l.i l.invariant c.bits_at.result (omega arith) (omega arith) c.bits_at.ensures
