-- `quantiles_differing` passes one argument a turn: those passed are counted, the rest is left.
-- Assumes nothing.
use Rattle.std.proofs.Common.{◌≡◌, ◌+◌, ◌≤◌, length, drop}
use Rattle.command_selftest.specs.Replay.{others_among}
use Rattle.command_selftest.proofs.quantiles.quantiles_differing.Given as goal

abbrev pub invariant-loop-argument : goal.invariant-loop-argument
invariant-loop-argument l =
    (length l.x ≡ length l.bits) × (l.differing ≤ length l.yielded)
    × (l.differing + others_among (drop (length l.yielded) l.x) (drop (length l.yielded) l.bits) ≡ others_among l.x l.bits)
