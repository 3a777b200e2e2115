-- The whole numbers of the formula enter it exactly: n, S, D and each form's divisor of plausible sums, and every chance in range,
-- are doubles of just their value, so that only the formula's own operations round. Assumes nothing.
use mathlib.Core.Path.{◌≡◌}
use mathlib.Core.Bool.{true, false}
use Prim.Native.Nat.{ℕ}
use native.Mathlib.Omega.{arith}
use lib.Ieee.Exact.{HasValue}
use Rattle.limit.specs.declared.sums.Sums.{Sums}
use Rattle.limit.specs.Sums.{is_plausible}
use Rattle.limit.specs.Formula.{double, divisor_of, scatter_of}
use Rattle.limit.specs.Limit.{min_chance, max_chance, chance_in_range}
use Rattle.limit.proofs.InRange.{at_most}
use Rattle.limit.proofs.Plausible.{plausible_facts}
use Rattle.limit.proofs.Scatter.{sum_small, scatter_at_most}
use Rattle.limit.proofs.Divisor.{divisor_small}
use Rattle.limit.proofs.Exact.{double_exact}

-- the double of n is n
abbrev pub Exact : ℕ → Type 0
Exact n = HasValue (double n) false n 1

pub record ExactInputs (s : Sums) : Type 0 where
  pub exact_count : Exact s.count
  pub exact_sum : Exact s.sum
  pub exact_scatter : Exact (scatter_of s.count s.sum s.squares)
  pub exact_divisor : (form : ℕ) → Exact (divisor_of form s.count)

pub inputs_exact : (s : Sums) → is_plausible s ≡ true → ExactInputs s
inputs_exact s e =
    let p = plausible_facts s e in
    let sum = sum_small _ _ _ p.count_high p.sum_high p.squares_high in
    let scatter = scatter_at_most _ _ _ p.count_high p.sum_high p.squares_high in
    record {
      exact_count = double_exact _ (omega arith);
      exact_sum = double_exact _ (omega arith);
      exact_scatter = double_exact _ (omega arith);
      exact_divisor = λ form. double_exact _ (omega (arith, divisor_small s.count form p.count_high));
    }

pub chance_exact : (c : ℕ) → chance_in_range c ≡ true → Exact c
unfolding chance_in_range
chance_exact c e = double_exact c (omega (arith, at_most min_chance max_chance c e))
