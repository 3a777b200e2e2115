-- `lowest` takes out a factor of two a turn. The invariant: the fraction is still the same one. The measure is the exponent below.
-- Assumes nothing.
use mathlib.Core.Path.{◌≡◌}
use Prim.Native.Nat.{◌*◌, ◌^◌}
use Rattle.text_decimal.proofs.fraction.lowest.Given as goal

abbrev pub invariant-loop-j : goal.invariant-loop-j
invariant-loop-j l = l.n * 2 ^ l.k ≡ l.m * 2 ^ l.j

abbrev pub decreases-loop-j : goal.decreases-loop-j
decreases-loop-j l = l.j
