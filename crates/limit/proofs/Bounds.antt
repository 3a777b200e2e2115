-- Bounds of the sums of times that are each in range: S lies between n × 1 and n × 1,048,575, and Q is at most 1,048,575 × S.
-- By induction over the list. Assumes nothing.
use mathlib.Core.Path.{◌≡◌, refl}
use mathlib.Core.Bool.{true}
use mathlib.Core.List.{List, [], ◌∷◌, ◌++◌}
use Prim.Native.Nat.{ℕ, ◌*◌, ◌≤◌}
use native.Mathlib.Nat.{mul-le-mul_right}
use native.Mathlib.Omega.{arith}
use lib.ListN.{length}
use Rattle.facts.proofs.Tests.{both, first_of_lem, second_of_lem}
use Rattle.limit.specs.Times.{min_ticks, max_ticks, time_in_range, all_in_range, sum_of, squares_of}
use Rattle.limit.proofs.InRange.{at_least, at_most}

pub time_at_least : (t : ℕ) → time_in_range t ≡ true → min_ticks ≤ t
unfolding time_in_range
time_at_least t e = at_least min_ticks max_ticks t e

pub time_at_most : (t : ℕ) → time_in_range t ≡ true → t ≤ max_ticks
unfolding time_in_range
time_at_most t e = at_most min_ticks max_ticks t e

module _ (t : ℕ) (ts : List ℕ) (e : all_in_range (t ∷ ts) ≡ true) where
  pub head_in_range : time_in_range t ≡ true
  unfolding all_in_range
  head_in_range = first_of_lem (time_in_range t) (all_in_range ts) e

  pub tail_in_range : all_in_range ts ≡ true
  unfolding all_in_range
  tail_in_range = second_of_lem (time_in_range t) (all_in_range ts) e

-- times in range with one more that is
pub all_append : (ts : List ℕ) (t : ℕ) → all_in_range ts ≡ true → time_in_range t ≡ true → all_in_range (ts ++ t ∷ []) ≡ true
unfolding all_in_range
all_append [] t e d = both d refl
all_append (u ∷ ts) t e d = both (head_in_range u ts e) (all_append ts t (tail_in_range u ts e) d)

pub sum_at_least : (ts : List ℕ) → all_in_range ts ≡ true → length ts * min_ticks ≤ sum_of ts
unfolding sum_of
sum_at_least [] e = omega arith
sum_at_least (t ∷ ts) e =
    omega (arith, sum_at_least ts (tail_in_range t ts e), time_at_least t (head_in_range t ts e))

pub sum_at_most : (ts : List ℕ) → all_in_range ts ≡ true → sum_of ts ≤ length ts * max_ticks
unfolding sum_of
sum_at_most [] e = omega arith
sum_at_most (t ∷ ts) e =
    omega (arith, sum_at_most ts (tail_in_range t ts e), time_at_most t (head_in_range t ts e))

pub squares_at_most : (ts : List ℕ) → all_in_range ts ≡ true → squares_of ts ≤ max_ticks * sum_of ts
unfolding sum_of squares_of
squares_at_most [] e = omega arith
squares_at_most (t ∷ ts) e =
    let square : t * t ≤ max_ticks * t = mul-le-mul_right t (time_at_most t (head_in_range t ts e)) in
    omega (arith, squares_at_most ts (tail_in_range t ts e))
