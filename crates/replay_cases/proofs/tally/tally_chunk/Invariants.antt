-- `tally_chunk` meets its contract. The invariant is `Replayed` of the tally and the buffer; the measure is what is left of the chunk.
-- Assumes nothing.
use Rattle.std.proofs.Common.{◌-◌, ◌≤◌, ◌≡◌, length}
use Rattle.replay_lines.proofs.Replay.{Replayed}
use Rattle.replay_cases.specs.Replay.{stepped}
use Rattle.replay_cases.proofs.tally.tally_chunk.Given as goal

abbrev pub invariant-loop-at : goal.invariant-loop-at
invariant-loop-at l =
    (l.at ≤ length l.chunk)
    × (length l.v ≡ length l.initial.v)
    × Replayed 56 stepped l.chunk (record { tally = l.initial.tally; bytes = l.initial.v }) l.at (record { tally = l.tally; bytes = l.v })

abbrev pub decreases-loop-at : goal.decreases-loop-at
decreases-loop-at l = length l.chunk - l.at
