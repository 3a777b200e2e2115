-- Doubles as whole numbers, counted in the smallest one, 2 ^ -1074; and what it is that an operation loses nothing. Definitions only.
use Rattle.std.specs.Prelude.{ℕ, ◌*◌, ◌/◌, ◌^◌, ◌≡◌, cond, ℤ, pos, neg_ℤ, ◌+ℤ◌, ◌-ℤ◌, ◌*ℤ◌, Float}
use Rattle.std.specs.Float.{nan, inf, fin, binary64}
use Rattle.std.specs.Float.Ieee.{up, down, add, sub, mul}

-- the scale: the number of smallest doubles in 1
abbrev pub scale : ℕ
scale = 2 ^ 1074

-- the size of x times the scale: a whole number for every finite double (`size_of_whole`)
unfoldable pub size_of : Float → ℕ
size_of nan = 0
size_of (inf s) = 0
size_of (fin s m e) = m * up e * scale / down e

-- x times the scale
unfoldable pub scaled : Float → ℤ
unfolding size_of
scaled nan = pos 0
scaled (inf s) = pos 0
scaled (fin s m e) = cond s (neg_ℤ (pos (size_of (fin s m e)))) (pos (size_of (fin s m e)))

-- the rounded sum is the sum
abbrev pub ExactSum : Float → Float → Type 0
ExactSum x y = scaled (add binary64 x y) ≡ scaled x +ℤ scaled y

-- the rounded difference is the difference
abbrev pub ExactDifference : Float → Float → Type 0
ExactDifference x y = scaled (sub binary64 x y) ≡ scaled x -ℤ scaled y

-- the rounded product is the product; that of two scaled numbers is scaled twice
abbrev pub ExactMul : Float → Float → Type 0
ExactMul x y = scaled (mul binary64 x y) *ℤ pos scale ≡ scaled x *ℤ scaled y
