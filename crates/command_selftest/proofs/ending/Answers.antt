-- `ending` is its definition, a branch each.
-- Assumes nothing.
use Rattle.std.proofs.Common.{rules}
use Rattle.command_selftest.specs.Replay.{ending_of}
use Rattle.command_selftest.proofs.ending.Goals as goal

pub returns-then-same : goal.returns-then-same
unfolding ending_of
returns-then-same c = search rules

pub returns-else-same : goal.returns-else-same
unfolding ending_of
returns-else-same c = search rules
