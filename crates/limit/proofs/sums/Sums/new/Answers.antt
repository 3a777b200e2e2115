-- `new` is the sums of no times.
-- Assumes nothing.
use mathlib.Core.Path.{refl}
use Rattle.limit.specs.Sums.{no_times}
use Rattle.limit.proofs.sums.Sums.new.Goals as goal

pub returns : goal.returns
unfolding no_times
returns c = refl
