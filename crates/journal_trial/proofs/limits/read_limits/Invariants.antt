-- `read_limits` puts the limits of one position a turn. The measure is how many are left. Assumes nothing.
use Rattle.std.proofs.Common.{get_or}
use Rattle.journal_entries.specs.Entries.{start_in}
use Rattle.journal_trial.specs.Together.{limit_bytes, LimitsOf}
use Rattle.journal_trial.proofs.limits.read_limits.Given as goal

abbrev pub invariant-loop-k : goal.invariant-loop-k
invariant-loop-k l =
    LimitsOf l.limits (λ i. limit_bytes l.v (start_in l.index (get_or l.places i 0))) l.k
