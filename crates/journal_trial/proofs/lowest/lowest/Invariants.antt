-- `lowest` takes one chance a turn. The invariant: the answer is that of the chances left. The measure is how many are left.
-- Assumes nothing.
use Rattle.std.proofs.Common.{◌≡◌, ◌-◌, ◌/◌, length}
use Rattle.journal_trial.specs.Lowest.{lowest_from, lowest_in}
use Rattle.journal_trial.proofs.lowest.lowest.Given as goal

abbrev pub invariant-loop-j : goal.invariant-loop-j
invariant-loop-j l = (lowest_in l.links l.chances l.overs ≡ lowest_from l.links l.chances l.overs (length l.chances / 4 - l.j) l.j)
