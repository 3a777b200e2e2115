-- `inverse_root` meets its contract: its products fit, by the sizes of their factors. What it guesses is not looked at. Assumes nothing.
use Rattle.std.proofs.Common.{ℕ, ◌-◌, ◌*◌, ◌/◌, ◌%◌, ◌^◌, ◌≤◌, arith}
use Rattle.sqrt.proofs.Checking.{product_le}
use Rattle.sqrt.proofs.guess.inverse_root.Goals as goal

pub overflow_mul-first : goal.overflow_mul-first
overflow_mul-first c =
    let h = product_le (2 ^ 26) (2 ^ 32 - 1) (c.other_terms-c.result / 2 ^ 38) (c.args.b / 2 ^ 14 % 2 ^ 32) (omega arith) (omega arith) in
    omega arith

-- the square of the place
square_le : (b : ℕ) → b / 2 ^ 14 % 2 ^ 32 * (b / 2 ^ 14 % 2 ^ 32) ≤ (2 ^ 32 - 1) * (2 ^ 32 - 1)
square_le b = let p = b / 2 ^ 14 % 2 ^ 32 in product_le (2 ^ 32 - 1) (2 ^ 32 - 1) p p (omega arith) (omega arith)

pub overflow_mul-second : goal.overflow_mul-second
overflow_mul-second c = let h = square_le c.args.b in omega arith

pub overflow_mul-second-2 : goal.overflow_mul-second-2
overflow_mul-second-2 c =
    let p = c.args.b / 2 ^ 14 % 2 ^ 32 in
    let s = square_le c.args.b in
    let h = product_le (2 ^ 22) (2 ^ 32) (c.other_terms-c.result / 2 ^ 16 % 2 ^ 22) (p * p / 2 ^ 32) (omega arith) (omega arith) in
    omega arith

pub overflow_mul-third : goal.overflow_mul-third
overflow_mul-third c =
    let h = product_le (2 ^ 16 - 1) (2 ^ 48) (c.other_terms-c.result % 2 ^ 16) c.cube.result (omega arith) (omega arith) in
    omega arith
