-- Worked cases of this crate's definitions, computed.
use mathlib.Core.Path.{◌≡◌, refl}
use mathlib.Core.Bool.{true, false}
use lib.IntN.{pos, negsuc}
use lib.Ieee.{binary64, of_bits}
use Rattle.law_exact.specs.Scaled.{scale, size_of, scaled}
use Rattle.law_exact.specs.Dekker.{in_range}

-- the smallest double below zero, and 1
scaled_least : scaled (of_bits binary64 0x8000000000000001) ≡ negsuc 0
unfolding scaled size_of of_bits
scaled_least = refl

scaled_one : scaled (of_bits binary64 0x3ff0000000000000) ≡ pos scale
unfolding scaled size_of of_bits
scaled_one = refl

-- 2 ^ -400 and the double before it, -2 ^ 400 and the double after 2 ^ 400, -0, NaN
range_least : in_range (of_bits binary64 0x26f0000000000000) ≡ true
unfolding in_range size_of of_bits
range_least = refl

range_less : in_range (of_bits binary64 0x26efffffffffffff) ≡ false
unfolding in_range size_of of_bits
range_less = refl

range_most : in_range (of_bits binary64 0xd8f0000000000000) ≡ true
unfolding in_range size_of of_bits
range_most = refl

range_more : in_range (of_bits binary64 0x58f0000000000001) ≡ false
unfolding in_range size_of of_bits
range_more = refl

range_zero : in_range (of_bits binary64 0x8000000000000000) ≡ true
unfolding in_range size_of of_bits
range_zero = refl

range_nan : in_range (of_bits binary64 0x7ff8000000000000) ≡ false
unfolding in_range size_of of_bits
range_nan = refl
