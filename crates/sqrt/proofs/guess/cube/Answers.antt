-- `cube` meets its contract: the sizes of its products. Assumes nothing.
use Rattle.std.proofs.Common.{ℕ, ◌-◌, ◌*◌, ◌^◌, ◌<◌, ◌≤◌, arith}
use Rattle.sqrt.proofs.Checking.{product_le}
use Rattle.sqrt.proofs.guess.cube.Goals as goal

square_le : (h : ℕ) → h < 2 ^ 16 → h * h ≤ (2 ^ 16 - 1) * (2 ^ 16 - 1)
square_le h l = product_le (2 ^ 16 - 1) (2 ^ 16 - 1) h h (omega arith) (omega arith)

cube_le : (h : ℕ) → h < 2 ^ 16 → h * h * h ≤ (2 ^ 16 - 1) * (2 ^ 16 - 1) * (2 ^ 16 - 1)
cube_le h l = product_le ((2 ^ 16 - 1) * (2 ^ 16 - 1)) (2 ^ 16 - 1) (h * h) h (square_le h l) (omega arith)

pub overflow_mul-result : goal.overflow_mul-result
overflow_mul-result c = let k = square_le c.args.h c.requires in omega arith

pub overflow_mul-result-2 : goal.overflow_mul-result-2
overflow_mul-result-2 c = let k = cube_le c.args.h c.requires in omega arith

pub returns : goal.returns
returns c = let k = cube_le c.args.h c.requires in omega arith
