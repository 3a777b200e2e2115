-- The sums of a list with one more time at its end are the sums of the list with that time added:
-- among at most 128 times in range no sum reaches the largest u64. Assumes nothing.
use mathlib.Core.Path.{◌≡◌}
use mathlib.Core.Bool.{true}
use mathlib.Core.List.{List, [], ◌∷◌, ◌++◌}
use Prim.Native.Nat.{ℕ, ◌+◌, ◌*◌, ◌^◌, ◌≤◌, ◌<◌}
use native.Mathlib.Nat.{mul-le-mul}
use native.Mathlib.Omega.{arith}
use lib.ListN.{length, length-append}
use Rattle.limit.specs.Times.{max_ticks, max_count, all_in_range, sum_of, squares_of}
use Rattle.limit.specs.Sums.{sums_of, saturating_add, add_time}
use Rattle.limit.proofs.Bounds.{sum_at_most, squares_at_most}

pub saturating_exact : (a b : ℕ) → a + b < 2 ^ 64 → saturating_add a b ≡ a + b
unfolding saturating_add
saturating_exact a b h = omega arith

pub sum_append : (ts : List ℕ) (t : ℕ) → sum_of (ts ++ t ∷ []) ≡ sum_of ts + t
unfolding sum_of
sum_append [] t = omega arith
sum_append (u ∷ ts) t = omega (arith, sum_append ts t)

pub squares_append : (ts : List ℕ) (t : ℕ) → squares_of (ts ++ t ∷ []) ≡ squares_of ts + t * t
unfolding squares_of
squares_append [] t = omega arith
squares_append (u ∷ ts) t = omega (arith, squares_append ts t)

module _ (ts : List ℕ) (t : ℕ) (each : all_in_range ts ≡ true) (room : length ts < max_count) (small : t ≤ max_ticks) where
  count_fits : length ts + 1 < 2 ^ 64
  count_fits = omega arith

  pub sum_fits : sum_of ts + t < 2 ^ 64
  sum_fits = omega (arith, sum_at_most ts each)

  pub squares_fit : squares_of ts + t * t < 2 ^ 64
  squares_fit = omega (arith, squares_at_most ts each, sum_at_most ts each, mul-le-mul small small)

  pub add_one_time : add_time (sums_of ts) t ≡ sums_of (ts ++ t ∷ [])
  unfolding add_time sums_of
  add_one_time =
      rw (
        saturating_exact (length ts) 1 count_fits,
        saturating_exact (sum_of ts) t sum_fits,
        saturating_exact (squares_of ts) (t * t) squares_fit,
        length-append,
        sum_append,
        squares_append,
      )
