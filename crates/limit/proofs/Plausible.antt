-- What `is_plausible` says as facts on numbers, in both directions, and that the sums of times in range are plausible.
-- Assumes nothing.
use mathlib.Core.Path.{◌≡◌}
use mathlib.Core.Bool.{true, ◌&&◌}
use mathlib.Core.List.{List}
use Prim.Native.Nat.{ℕ, ◌*◌, ◌≤◌}
use lib.Dec.{leb}
use lib.ListN.{length}
use borrow.Author.Tests.{le-leb, leb-true}
use Rattle.facts.proofs.Tests.{both, first_of_lem, second_of_lem}
use Rattle.limit.specs.declared.sums.Sums.{Sums}
use Rattle.limit.specs.Times.{min_ticks, max_ticks, min_count, max_count, in_range, all_in_range, times_in_range}
use Rattle.limit.specs.Sums.{sums_of, is_plausible}
use Rattle.limit.proofs.InRange.{inside, at_least, at_most}
use Rattle.limit.proofs.Cauchy.{cauchy_schwarz}
use Rattle.limit.proofs.Bounds.{sum_at_least, sum_at_most, squares_at_most}

pub record Plausible (s : Sums) : Type 0 where
  pub count_low : min_count ≤ s.count
  pub count_high : s.count ≤ max_count
  pub sum_low : s.count * min_ticks ≤ s.sum
  pub sum_high : s.sum ≤ s.count * max_ticks
  pub squares_high : s.squares ≤ max_ticks * s.sum
  pub squares_low : s.sum * s.sum ≤ s.count * s.squares

pub plausible_facts : (s : Sums) → is_plausible s ≡ true → Plausible s
unfolding is_plausible
plausible_facts s e =
    let counts = in_range min_count max_count s.count in
    let sums = in_range (s.count * min_ticks) (s.count * max_ticks) s.sum in
    let high = leb s.squares (max_ticks * s.sum) in
    let low = leb (s.sum * s.sum) (s.count * s.squares) in
    let three = first_of_lem (counts && sums && high) low e in
    let two = first_of_lem (counts && sums) high three in
    let one = first_of_lem counts sums two in
    let other = second_of_lem counts sums two in
    record {
      count_low = at_least min_count max_count s.count one;
      count_high = at_most min_count max_count s.count one;
      sum_low = at_least (s.count * min_ticks) (s.count * max_ticks) s.sum other;
      sum_high = at_most (s.count * min_ticks) (s.count * max_ticks) s.sum other;
      squares_high = leb-true s.squares (max_ticks * s.sum) (second_of_lem (counts && sums) high three);
      squares_low = leb-true (s.sum * s.sum) (s.count * s.squares) (second_of_lem (counts && sums && high) low e);
    }

pub facts_plausible : (s : Sums) → Plausible s → is_plausible s ≡ true
unfolding is_plausible
facts_plausible s p =
    both
    (both
    (both
    (inside min_count max_count s.count p.count_low p.count_high)
    (inside (s.count * min_ticks) (s.count * max_ticks) s.sum p.sum_low p.sum_high))
    (le-leb s.squares (max_ticks * s.sum) p.squares_high))
    (le-leb (s.sum * s.sum) (s.count * s.squares) p.squares_low)

-- the sums of 2 to 128 times in range
pub times_plausible : (ts : List ℕ) → times_in_range ts ≡ true → is_plausible (sums_of ts) ≡ true
unfolding times_in_range sums_of
times_plausible ts e =
    let counts = in_range min_count max_count (length ts) in
    let one = first_of_lem counts (all_in_range ts) e in
    let each = second_of_lem counts (all_in_range ts) e in
    facts_plausible (sums_of ts)
    (record {
      count_low = at_least min_count max_count (length ts) one;
      count_high = at_most min_count max_count (length ts) one;
      sum_low = sum_at_least ts each;
      sum_high = sum_at_most ts each;
      squares_high = squares_at_most ts each;
      squares_low = cauchy_schwarz ts;
    })
