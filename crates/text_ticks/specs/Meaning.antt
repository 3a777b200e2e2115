-- What it is to be the least whole number not below a double, and the nearest one: said of whole numbers with a sign, by multiplying out, with no
-- real number. Definitions only.
use Rattle.std.specs.Prelude.{ℕ, ◌*◌, ◌≡◌, Bool, true, false, cond, T, leb, ℤ, pos, negsuc, neg_ℤ, Some, ◌+ℤ◌, ◌*ℤ◌, Float}
use Rattle.std.specs.Float.Ieee.Positive.{num, den}
use Rattle.text_ticks.specs.declared.whole.Count.{Count}
use Rattle.text_ticks.specs.Ticks.{minus_of, ticks_up, ticks_near}

-- n with a sign
abbrev pub signed : Bool → ℕ → ℤ
signed s n = cond s (neg_ℤ (pos n)) (pos n)

-- a count of ticks as a whole number
abbrev pub int_of : Count → ℤ
int_of c = signed c.below c.size

-- y is at most z
abbrev pub le_z : ℤ → ℤ → Bool
le_z (pos m) (pos n) = leb m n
le_z (pos m) (negsuc n) = false
le_z (negsuc m) (pos n) = true
le_z (negsuc m) (negsuc n) = leb n m

-- x is the fraction num_z / den_z
abbrev pub num_z : Float → ℤ
num_z x = signed (minus_of x) (num x)

abbrev pub den_z : Float → ℤ
den_z x = pos (den x)

-- z is not below x, and every whole number that is not below x is at least z
pub record LeastNotBelow (x : Float) (z : ℤ) : Type 0 where
  pub not_below : T (le_z (num_z x) (z *ℤ den_z x))
  pub least : (y : ℤ) → T (le_z (num_z x) (y *ℤ den_z x)) → T (le_z z y)

-- x + 1/2 is the fraction num_half / den_half
abbrev pub num_half : Float → ℤ
num_half x = pos 2 *ℤ num_z x +ℤ den_z x

abbrev pub den_half : Float → ℤ
den_half x = pos (2 * den x)

-- z is not above x + 1/2, and every whole number that is not above it is at most z: z is nearest to x, and of two the upper one
pub record NearestUp (x : Float) (z : ℤ) : Type 0 where
  pub not_above : T (le_z (z *ℤ den_half x) (num_half x))
  pub greatest : (y : ℤ) → T (le_z (y *ℤ den_half x) (num_half x)) → T (le_z y z)

-- of a double in range: rounded up it is the least whole number not below it
pub record RoundsUp (x : Float) : Type 0 where
  pub count : Count
  pub is : ticks_up x ≡ Some count
  pub least : LeastNotBelow x (int_of count)

-- and rounded to the nearest it is that
pub record RoundsNear (x : Float) : Type 0 where
  pub count : Count
  pub is : ticks_near x ≡ Some count
  pub nearest : NearestUp x (int_of count)
