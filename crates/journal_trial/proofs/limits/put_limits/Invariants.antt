-- `put_limits` puts one limit a turn. The measure is how many of the eight are left. Assumes nothing.
use Rattle.journal_trial.specs.Together.{LimitsPut}
use Rattle.journal_trial.proofs.limits.put_limits.Given as goal

abbrev pub invariant-loop-j : goal.invariant-loop-j
invariant-loop-j l = LimitsPut l.initial.limits l.k l.bytes l.limits l.j
