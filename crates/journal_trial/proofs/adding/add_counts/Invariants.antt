-- `add_counts` adds one number a turn. The measure is how many are left. Assumes nothing.
use Rattle.std.proofs.Common.{◌≡◌, get_or}
use Rattle.journal_trial.specs.Adding.{added_first}
use Rattle.journal_trial.proofs.adding.add_counts.Given as goal

abbrev pub invariant-loop-i : goal.invariant-loop-i
invariant-loop-i l = (l.table ≡ added_first l.initial.table l.i (λ k. get_or l.counts k 0))
