-- Dekker's product (request 2026-05): for which factors the pair is exact, what that says, and that every step behind it is. Definitions only.
-- T. J. Dekker, A floating-point technique for extending the available precision, Numerische Mathematik 18 (1971); the splitting is Veltkamp's.
use Rattle.std.specs.Prelude.{ℕ, ◌+◌, ◌-◌, ◌*◌, ◌^◌, ◌≤◌, ◌≡◌, Bool, ◌&&◌, ◌||◌, T, leb, eqb, pos, ◌+ℤ◌, ◌*ℤ◌, Float}
use Rattle.std.specs.Float.{binary64}
use Rattle.std.specs.Float.Ieee.{of_bits, add, sub, mul}
use Rattle.std.specs.Float.Ieee.Scale.{finite}
use Rattle.pxfm.specs.declared.double_double.DoubleDouble.{DoubleDouble}
use Rattle.pxfm.specs.DoubleDouble.{split_of, from_exact_mult}
use Rattle.law_exact.specs.Scaled.{scale, size_of, scaled, ExactSum, ExactDifference, ExactMul}

-- the range's ends, 2 ^ -400 and 2 ^ 400, are these powers of two when scaled
abbrev pub least_power : ℕ
least_power = 1074 - 400

abbrev pub most_power : ℕ
most_power = 1074 + 400

-- x is zero, or between 2 ^ -400 and 2 ^ 400 in size
unfoldable pub in_range : Float → Bool
unfolding size_of
in_range x = finite x && (eqb (size_of x) 0 || (leb (2 ^ least_power) (size_of x) && leb (size_of x) (2 ^ most_power)))

-- low part plus high part is the product of a and b, which is scaled twice; both parts are finite
pub record ExactProduct (a b : Float) (r : DoubleDouble) : Type 0 where
  pub low_finite : T (finite r.lo)
  pub high_finite : T (finite r.hi)
  pub exact : (scaled r.lo +ℤ scaled r.hi) *ℤ pos scale ≡ scaled a *ℤ scaled b

-- ---- Veltkamp's splitting

-- 2 ^ 27 + 1
abbrev pub splitter : Float
splitter = of_bits binary64 0x41a0_0000_0200_0000

-- x is at most 2 ^ 26 units of a power of two: the product of two such has at most 53 digits
pub record Half (x : Float) : Type 0 where
  pub n : ℕ
  pub j : ℕ
  pub few : n ≤ 2 ^ 26
  pub is : size_of x ≡ n * 2 ^ j

-- a is the sum of its halves
pub record ExactSplit (a : Float) (d : DoubleDouble) : Type 0 where
  pub sum : scaled d.lo +ℤ scaled d.hi ≡ scaled a
  pub low_half : Half d.lo
  pub high_half : Half d.hi

-- ---- the low part

-- What the high part h lacks, of halves u and v, sum by sum: the first takes h off the product of the high halves, and each other adds a product.
abbrev pub first : DoubleDouble → DoubleDouble → Float → Float
first u v h = sub binary64 (mul binary64 u.hi v.hi) h

abbrev pub second : DoubleDouble → DoubleDouble → Float → Float
second u v h = add binary64 (mul binary64 u.hi v.lo) (first u v h)

abbrev pub third : DoubleDouble → DoubleDouble → Float → Float
third u v h = add binary64 (mul binary64 u.lo v.hi) (second u v h)

abbrev pub low_part : DoubleDouble → DoubleDouble → Float → Float
low_part u v h = add binary64 (mul binary64 u.lo v.lo) (third u v h)

-- Of halves u and v and a high part h, every product and every sum behind the low part is exact.
pub record ExactSteps (u v : DoubleDouble) (h : Float) : Type 0 where
  pub high_high : ExactMul u.hi v.hi
  pub high_low : ExactMul u.hi v.lo
  pub low_high : ExactMul u.lo v.hi
  pub low_low : ExactMul u.lo v.lo
  pub first_exact : ExactDifference (mul binary64 u.hi v.hi) h
  pub second_exact : ExactSum (mul binary64 u.hi v.lo) (first u v h)
  pub third_exact : ExactSum (mul binary64 u.lo v.hi) (second u v h)
  pub last_exact : ExactSum (mul binary64 u.lo v.lo) (third u v h)

-- Dekker's argument: the product of a and b is rounded once, to the high part, and nothing else is.
pub record DekkerSteps (a b : Float) : Type 0 where
  pub split_a : ExactSplit a (split_of a)
  pub split_b : ExactSplit b (split_of b)
  pub high_part : (from_exact_mult a b).hi ≡ mul binary64 a b
  pub low_part : (from_exact_mult a b).lo ≡ low_part (split_of a) (split_of b) (mul binary64 a b)
  pub steps : ExactSteps (split_of a) (split_of b) (mul binary64 a b)
