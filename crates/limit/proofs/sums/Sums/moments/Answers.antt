-- `moments` is mean and spread of its sums: plausible sums keep every product inside a u64 and every cast exact.
-- Assumes nothing.
use native.Mathlib.Omega.{arith}
use Rattle.limit.specs.Forms.{form_number}
use Rattle.limit.specs.Formula.{moments_of, spread_of}
use Rattle.limit.proofs.Plausible.{Plausible, plausible_facts}
use Rattle.limit.proofs.Scatter.{sum_square_small, squares_product_small, scatter_at_most}
use Rattle.limit.proofs.Divisor.{divisor_small}
use Rattle.limit.proofs.sums.Sums.moments.Goals as goal

-- The two are the formula's, by the three calls.
pub returns : goal.returns
unfolding moments_of spread_of
returns c = rw (c.spread_by-spread.ensures, c.divisor_of.ensures, c.mean_of-mean.ensures)

-- What the products, the difference and the calls ask, from the sums' bounds.
known : (c : goal.Start) → Plausible c.args.self
known c = plausible_facts c.args.self c.requires

known_2 : (c : goal.After-mean_of-mean) → Plausible c.args.self
known_2 c = plausible_facts c.args.self c.requires

known_3 : (c : goal.After-divisor_of) → Plausible c.args.self
known_3 c = plausible_facts c.args.self c.requires

pub overflow_mul-d : goal.overflow_mul-d
overflow_mul-d c =
    let p = known c in
    record { fits = squares_product_small _ _ _ p.count_high p.sum_high p.squares_high }

pub overflow_mul-d-2 : goal.overflow_mul-d-2
overflow_mul-d-2 c =
    let p = known c in
    record { fits = sum_square_small _ _ _ p.count_high p.sum_high p.squares_high }

pub overflow_sub-d : goal.overflow_sub-d
overflow_sub-d c = (known c).squares_low

pub mean_of-mean-requires : goal.mean_of-mean-requires
mean_of-mean-requires c = let p = known c in omega arith

pub divisor_of-requires : goal.divisor_of-requires
divisor_of-requires c = let p = known_2 c in (p.count_low, p.count_high)

pub spread_by-spread-requires : goal.spread_by-spread-requires
spread_by-spread-requires c =
    let p = known_3 c in
    omega (
      arith,
      c.divisor_of.ensures,
      divisor_small _ (form_number c.args.form) p.count_high,
      scatter_at_most _ _ _ p.count_high p.sum_high p.squares_high,
    )
