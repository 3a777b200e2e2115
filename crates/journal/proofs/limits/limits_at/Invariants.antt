-- `limits_at` passes one limit a turn, and the place of its chance with it.
-- Assumes nothing.
use Prim.Native.Nat.{◌-◌}
use Rattle.limit.specs.Answer.{moments_meaning}
use Rattle.journal.proofs.LimitsLoop.{Limiting}
use Rattle.journal.proofs.limits.limits_at.Given as goal

abbrev pub invariant-loop-i : goal.invariant-loop-i
invariant-loop-i l = Limiting l.b l.at l.n l.chances (moments_meaning l.worked) l.next l.chance (l.n - l.i)
