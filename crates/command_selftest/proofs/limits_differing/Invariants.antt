-- `limits_differing` adds at most four a row.
-- Assumes nothing.
use Rattle.std.proofs.Common.{◌*◌, ◌≤◌}
use Rattle.command_selftest.proofs.limits_differing.Given as goal

abbrev pub invariant-loop-row : goal.invariant-loop-row
invariant-loop-row l = l.differing ≤ 4 * l.row-index
