-- A number in the bytes of a slice, for readers that have not looked whether its bytes stand there.
-- Assumes nothing.
use Rattle.std.specs.Prelude.{ℕ, ◌+◌, List, cond, ◌&&◌, length, leb}
use Rattle.journal_spec.specs.Bytes.{number_at}

-- the number in the w bytes at a place; 0 where they do not all stand in the slice, or where they are more than the 8 of a u64
unfoldable pub number_in : ℕ → ℕ → List ℕ → ℕ
number_in w at b = cond (leb w 8 && leb (at + w) (length b)) (number_at w at b) 0
