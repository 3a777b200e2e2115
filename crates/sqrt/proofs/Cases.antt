-- Special operands and roots that are rounded, each worked out from the definition alone. The cases that document 01 lists
-- stand in the one table of them, in crate limit. Assumes nothing.
use Rattle.std.proofs.Common.{◌≡◌, refl}
use lib.Ieee.{nan, binary32, binary64, of_bits, to_bits}
use Rattle.sqrt.specs.Sqrt.{sqrt_in, sqrt_of}

-- ---- special operands

pub sqrt_zero : to_bits binary64 (sqrt_of (of_bits binary64 0)) ≡ 0
unfolding sqrt_in to_bits of_bits
sqrt_zero = refl

pub sqrt_minus_one : sqrt_of (of_bits binary64 0xbff0000000000000) ≡ nan
unfolding sqrt_in of_bits
sqrt_minus_one = refl

pub sqrt_infinity : to_bits binary64 (sqrt_of (of_bits binary64 0x7ff0000000000000)) ≡ 0x7ff0000000000000
unfolding sqrt_in to_bits of_bits
sqrt_infinity = refl

pub sqrt_minus_infinity : sqrt_of (of_bits binary64 0xfff0000000000000) ≡ nan
unfolding sqrt_in of_bits
sqrt_minus_infinity = refl

pub sqrt_nan : to_bits binary64 (sqrt_of (of_bits binary64 0xfff8000000000001)) ≡ 0x7ff8000000000000
unfolding sqrt_in to_bits of_bits
sqrt_nan = refl

-- ---- roots that are rounded: up for 2, and down for the largest double

pub sqrt_two : to_bits binary64 (sqrt_of (of_bits binary64 0x4000000000000000)) ≡ 0x3ff6a09e667f3bcd
unfolding sqrt_in to_bits of_bits
sqrt_two = refl

pub sqrt_largest : to_bits binary64 (sqrt_of (of_bits binary64 0x7fefffffffffffff)) ≡ 0x5fefffffffffffff
unfolding sqrt_in to_bits of_bits
sqrt_largest = refl

-- the other format: its smallest value
pub sqrt_smallest_32 : to_bits binary32 (sqrt_in binary32 (of_bits binary32 1)) ≡ 0x1a3504f3
unfolding sqrt_in to_bits of_bits
sqrt_smallest_32 = refl
