-- `other_bits` is its definition, which is 0 or 1.
-- Assumes nothing.
use Rattle.std.proofs.Common.{rules}
use Rattle.command_selftest.specs.Replay.{one_if_other}
use Rattle.command_selftest.proofs.quantiles.other_bits.Goals as goal

pub returns-clause-value : goal.returns-clause-value
unfolding one_if_other
returns-clause-value c = search rules
