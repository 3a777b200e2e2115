-- What the range test says, in both directions, and what a conjunction of tests says.
-- Assumes nothing.
use mathlib.Core.Path.{◌≡◌}
use mathlib.Core.Bool.{true, false}
use Prim.Native.Nat.{ℕ, ◌≤◌, ◌<◌}
use lib.Dec.{leb}
use borrow.Author.Tests.{le-leb, lt-leb, leb-true}
use Rattle.facts.proofs.Tests.{both, first_of_lem, second_of_lem, second_fails}
use Rattle.limit.specs.Times.{in_range}

module _ (low high x : ℕ) where
  pub inside : low ≤ x → x ≤ high → in_range low high x ≡ true
  unfolding in_range
  inside h k = both (le-leb low x h) (le-leb x high k)

  pub below : x < low → in_range low high x ≡ false
  unfolding in_range
  below h = rw (lt-leb low x h)

  pub above : high < x → in_range low high x ≡ false
  unfolding in_range
  above h = second_fails (leb low x) (leb x high) (lt-leb x high h)

  -- at or above the least, the greatest alone decides
  pub from_low : low ≤ x → in_range low high x ≡ leb x high
  unfolding in_range
  from_low h = rw (le-leb low x h)

  pub at_least : in_range low high x ≡ true → low ≤ x
  unfolding in_range
  at_least e = leb-true low x (first_of_lem (leb low x) (leb x high) e)

  pub at_most : in_range low high x ≡ true → x ≤ high
  unfolding in_range
  at_most e = leb-true x high (second_of_lem (leb low x) (leb x high) e)
