-- `is_plausible` makes its definition's tests in their order; each passed test bounds what the next multiplies.
-- Assumes nothing.
use Rattle.std.proofs.Common.{◌*◌, ◌≤◌, arith}
use Rattle.std.proofs.lemmas.Bool.Decides.{nat_tests}
use Rattle.limit.specs.Times.{max_ticks, max_count, in_range}
use Rattle.limit.specs.Sums.{is_plausible}
use Rattle.limit.proofs.Scatter.{sum_square_small, squares_product_small}
use Rattle.limit.proofs.sums.Sums.is_plausible.Goals as goal

pub overflow_mul-n-then-in_range : goal.overflow_mul-n-then-in_range
unfolding in_range
overflow_mul-n-then-in_range c = grind (arith, nat_tests)

pub overflow_mul-s : goal.overflow_mul-s
unfolding in_range
overflow_mul-s c = grind (arith, nat_tests)

pub overflow_mul-result : goal.overflow_mul-result
unfolding in_range
overflow_mul-result c =
    let s = c.args.self in
    let counted : s.count ≤ max_count = grind (arith, nat_tests) in
    let summed : s.sum ≤ s.count * max_ticks = grind (arith, nat_tests) in
    let squared : s.squares ≤ max_ticks * s.sum = grind (arith, nat_tests) in
    record { fits = sum_square_small s.count s.sum s.squares counted summed squared }

pub overflow_mul-result-then-q-s : goal.overflow_mul-result-then-q-s
unfolding in_range
overflow_mul-result-then-q-s c =
    let s = c.args.self in
    let counted : s.count ≤ max_count = grind (arith, nat_tests) in
    let summed : s.sum ≤ s.count * max_ticks = grind (arith, nat_tests) in
    let squared : s.squares ≤ max_ticks * s.sum = grind (arith, nat_tests) in
    record { fits = squares_product_small s.count s.sum s.squares counted summed squared }

pub returns-then-q-s : goal.returns-then-q-s
unfolding is_plausible
returns-then-q-s c = grind (arith, nat_tests)

pub returns-else-q-s : goal.returns-else-q-s
unfolding is_plausible
returns-else-q-s c = grind (arith, nat_tests)
