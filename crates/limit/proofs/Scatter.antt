-- Document 01's "D .., at most 2^52", and the bounds that keep every product of the formula inside a u64 and every cast exact.
-- With P = n × 1,048,575: 4 × D ≤ 4 × P × S - 4 × S × S ≤ P × P, since 4 × P × S ≤ P × P + 4 × S × S. Assumes nothing.
use Prim.Native.Nat.{ℕ, ◌+◌, ◌*◌, ◌^◌, ◌≤◌, ◌<◌}
use native.Mathlib.Nat.{mul-le-mul, mul-le-mul_left}
use native.Mathlib.Omega.{arith}
use Rattle.limit.specs.Times.{max_ticks, max_count}
use Rattle.limit.specs.Formula.{scatter_of}
use Rattle.limit.proofs.Cauchy.{twice_product}

module _ (n s q : ℕ) (counted : n ≤ max_count) (summed : s ≤ n * max_ticks) (squared : q ≤ max_ticks * s) where
  pub sum_small : s ≤ max_count * max_ticks
  sum_small = omega arith

  pub squares_small : q ≤ max_ticks * (max_count * max_ticks)
  squares_small = omega (arith, sum_small)

  pub sum_square_small : s * s < 2 ^ 64
  sum_square_small = omega (arith, mul-le-mul sum_small sum_small)

  pub squares_product_small : n * q < 2 ^ 64
  squares_product_small = omega (arith, mul-le-mul counted squares_small)

  greatest_sum : n * max_ticks ≤ max_count * max_ticks
  greatest_sum = omega arith

  -- 4 × n × Q ≤ P × P + 4 × S × S
  four_fold : 4 * (n * q) ≤ n * max_ticks * (n * max_ticks) + 4 * (s * s)
  four_fold = omega (arith, mul-le-mul_left n squared, twice_product (n * max_ticks) (2 * s))

  pub scatter_at_most : scatter_of n s q ≤ 2 ^ 52
  scatter_at_most = omega (arith, four_fold, mul-le-mul greatest_sum greatest_sum)
