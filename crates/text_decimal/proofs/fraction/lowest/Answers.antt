-- `lowest` takes out a factor of two a turn, by the invariant. Assumes nothing.
use native.Mathlib.Omega.{arith}
use Rattle.text_decimal.proofs.LowestTerms.{lowest_turn}
use Rattle.text_decimal.proofs.fraction.lowest.Goals as goal

pub loop-j-preserved : goal.loop-j-preserved
loop-j-preserved c = lowest_turn _ _ _ _ (omega arith) (omega arith) c.loop-j.invariant
