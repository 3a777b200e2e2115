-- What it means that r is the value of a format nearest to the root of x, said by squares of fractions, with no real number. Definitions only.
-- `num` and `den` are the kit's: a finite value's size as a fraction of two natural numbers.
use Rattle.std.specs.Prelude.{ℕ, ◌+◌, ◌-◌, ◌*◌, ◌<◌, Bool, false, not, T, Float}
use Rattle.std.specs.Float.{nan, inf, fin, Format}
use Rattle.std.specs.Float.Ieee.{fits}
use Rattle.std.specs.Float.Ieee.Positive.{num, den, positive}

-- finite, and not below zero
abbrev pub not_negative : Float → Bool
not_negative nan = false
not_negative (inf s) = false
not_negative (fin s m e) = not s

-- r + y is the fraction sumNum / sumDen
abbrev pub sum_num : Float → Float → ℕ
sum_num r y = num r * den y + num y * den r

abbrev pub sum_den : Float → Float → ℕ
sum_den r y = den r * den y

-- r < y, for values that are not below zero
abbrev pub Less : Float → Float → Type 0
Less r y = num r * den y < num y * den r

-- (r + y) ^ 2 < 4 * x: the midpoint of r and y lies below the root of x
abbrev pub MidBelow : Float → Float → Float → Type 0
MidBelow x r y = sum_num r y * sum_num r y * den x < 4 * num x * (sum_den r y * sum_den r y)

-- 4 * x < (r + y) ^ 2: the midpoint of r and y lies above the root of x
abbrev pub MidAbove : Float → Float → Float → Type 0
MidAbove x r y = 4 * num x * (sum_den r y * sum_den r y) < sum_num r y * sum_num r y * den x

-- Of the values of f, r is the one nearest to the root of x: r is a finite value of f above zero, and every other value y that is not below zero
-- is farther away than r: the root lies strictly on r's side of their midpoint. (The values with a minus sign: `MidBelowMinus`.)
pub record NearestRoot (f : Format) (x r : Float) : Type 0 where
  pub holds : T (fits f r)
  pub above_zero : T (positive r)
  pub beside_larger : (y : Float) → T (fits f y) → T (not_negative y) → Less r y → MidAbove x r y
  pub beside_smaller : (y : Float) → T (fits f y) → T (not_negative y) → Less y r → MidBelow x r y

-- ---- a value with a minus sign, whose size is num / den

-- finite, with a minus sign; -0 is among them
abbrev pub minus_signed : Float → Bool
minus_signed nan = false
minus_signed (inf s) = false
minus_signed (fin s m e) = s

-- r + y, where y has a minus sign, is the fraction restNum / sumDen, or below zero, and then restNum is 0
abbrev pub rest_num : Float → Float → ℕ
rest_num r y = num r * den y - num y * den r

-- (r + y) ^ 2 < 4 * x, or r + y is below zero: the midpoint of r and y lies below the root of x
abbrev pub MidBelowMinus : Float → Float → Float → Type 0
MidBelowMinus x r y = rest_num r y * rest_num r y * den x < 4 * num x * (sum_den r y * sum_den r y)
