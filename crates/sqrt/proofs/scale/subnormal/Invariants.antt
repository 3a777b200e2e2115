-- `subnormal` meets its contract: the loop keeps q * 4 ^ z, and ends since z falls. Assumes nothing.
use Rattle.sqrt.proofs.Scaling.{Shifted}
use Rattle.sqrt.proofs.scale.subnormal.Given as goal

abbrev pub invariant-loop-q : goal.invariant-loop-q
invariant-loop-q l = Shifted l.m l.q l.z

abbrev pub decreases-loop-q : goal.decreases-loop-q
decreases-loop-q l = l.z
