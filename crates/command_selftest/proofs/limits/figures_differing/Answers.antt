-- `figures_differing` adds the four figures, each 0 or 1.
-- Assumes nothing.
use native.Mathlib.Omega.{arith}
use Rattle.command_selftest.specs.Replay.{figures_differing}
use Rattle.command_selftest.proofs.limits.figures_differing.Goals as goal

pub returns : goal.returns
unfolding figures_differing
returns c = record { value = cc; upper_bound = omega arith }
