-- S × S ≤ n × Q for every list of numbers: the inequality of Cauchy and Schwarz, by induction over the list.
-- One more number t adds 2 × S × t and t × t on the left, Q + n × t × t and t × t on the right. Assumes nothing.
use Prim.Native.Nat.{ℕ, zero, suc, ◌+◌, ◌*◌, ◌≤◌}
use mathlib.Core.List.{List, [], ◌∷◌}
use native.Mathlib.Omega.{arith}
use lib.ListN.{length}
use Rattle.limit.specs.Times.{sum_of, squares_of}

-- twice a product is at most the two squares
pub twice_product : (a b : ℕ) → 2 * (a * b) ≤ a * a + b * b
twice_product zero b = omega arith
twice_product (suc a) zero = omega arith
twice_product (suc a) (suc b) = omega (arith, twice_product a b)

-- the same for x beside each number of a list
pub twice_sum : (ts : List ℕ) (x : ℕ) → 2 * (sum_of ts * x) ≤ squares_of ts + length ts * (x * x)
unfolding sum_of squares_of
twice_sum [] x = omega arith
twice_sum (t ∷ ts) x = omega (arith, twice_sum ts x, twice_product t x)

pub cauchy_schwarz : (ts : List ℕ) → sum_of ts * sum_of ts ≤ length ts * squares_of ts
unfolding sum_of squares_of
cauchy_schwarz [] = omega arith
cauchy_schwarz (t ∷ ts) = omega (arith, cauchy_schwarz ts, twice_sum ts t)
