-- `tally_chunk` meets its contract. The invariant is `Replayed`; the measure is what is left of the chunk. Assumes nothing.
use Rattle.std.proofs.Common.{◌-◌, ◌≤◌, length}
use Rattle.replay_lines.proofs.Replay.{Replayed}
use Rattle.replay_numbers.specs.Numbers.{stepped}
use Rattle.replay_numbers.proofs.tally.Groups.tally_chunk.Given as goal

abbrev pub invariant-loop-at : goal.invariant-loop-at
invariant-loop-at l = (l.at ≤ length l.chunk) × Replayed 45 stepped l.chunk l.initial.tally l.at l.tally

abbrev pub decreases-loop-at : goal.decreases-loop-at
decreases-loop-at l = length l.chunk - l.at
