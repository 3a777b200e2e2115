-- `flat_by` multiplies sums that are plausible, so that both products fit a u64.
-- Assumes nothing.
use native.Mathlib.Omega.{arith}
use Rattle.limit.proofs.Plausible.{plausible_facts}
use Rattle.limit.proofs.Scatter.{sum_square_small, squares_product_small}
use Rattle.journal.proofs.record.flat_by.Goals as goal

pub overflow_mul-result : goal.overflow_mul-result
overflow_mul-result c =
    let s = c.args.s in
    let p = plausible_facts s c.requires in
    omega (arith, squares_product_small s.count s.sum s.squares p.count_high p.sum_high p.squares_high)

pub overflow_mul-result-2 : goal.overflow_mul-result-2
overflow_mul-result-2 c =
    let s = c.args.s in
    let p = plausible_facts s c.requires in
    omega (arith, sum_square_small s.count s.sum s.squares p.count_high p.sum_high p.squares_high)
