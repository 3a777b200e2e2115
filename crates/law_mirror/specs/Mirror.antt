-- The mirror of the quantile (request 2026-13): for which x, where 2 - x lies, and what it says. Definitions only.
-- The request asks it where 2 - x is at least 0.1; it is stated, and holds, for every double strictly between 1 and 2.
use Rattle.std.specs.Prelude.{ℕ, ◌+◌, ◌%◌, ◌^◌, ◌≡◌, true, ◌-ℤ◌, Float}
use Rattle.std.specs.Float.{binary64}
use Rattle.std.specs.Float.Ieee.{fits, of_bits, to_bits, sub, lt}
use Rattle.pxfm.specs.DoubleDouble.{one, two}
use Rattle.pxfm.specs.Inverfc.{f_erfcinv}
use Rattle.law_exact.specs.Scaled.{scaled}

-- the pattern of 64 bits with the sign bit flipped
unfoldable pub flip_sign : ℕ → ℕ
flip_sign b = (b + 2 ^ 63) % 2 ^ 64

-- 2 - x, rounded; it is exact for an x between 1 and 2
abbrev pub mirror_of : Float → Float
mirror_of x = sub binary64 two x

-- x is a double strictly between 1 and 2
pub record Mirrored (x : Float) : Type 0 where
  pub double : fits binary64 x ≡ true
  pub above_one : lt one x ≡ true
  pub below_two : lt x two ≡ true

-- 2 - x is exact, over whole numbers of the smallest double, and the answer at x has the bits of the answer there with the sign bit flipped
pub record Mirror (x : Float) : Type 0 where
  pub exact : scaled (mirror_of x) ≡ scaled two -ℤ scaled x
  pub flipped : to_bits binary64 (f_erfcinv x) ≡ flip_sign (to_bits binary64 (f_erfcinv (mirror_of x)))

-- ---- the same of bit patterns

-- the double after 1, and the last before 2
abbrev pub first_mirrored : ℕ
first_mirrored = 0x3ff0_0000_0000_0001

abbrev pub last_mirrored : ℕ
last_mirrored = 0x3fff_ffff_ffff_ffff

-- the pattern of 2 - x for that of x
abbrev pub mirror_bits : ℕ → ℕ
mirror_bits b = to_bits binary64 (mirror_of (of_bits binary64 b))
