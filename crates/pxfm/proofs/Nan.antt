-- What is no NaN by its pattern: what `f64::from_bits` and `f64::to_bits` ask.
-- A NaN's pattern is above an infinity's. The test `x != x` is read by the laws of crate sqrt. Assumes nothing.
use Rattle.std.proofs.Common.{◌≡◌, ℕ, ◌%◌, ◌<◌, ◌≤◌, not, T, mod-eq_of_lt, arith}
use lib.Ieee.{Float, nan, inf, fin, binary64, nan_bits, is_nan, to_bits}
use Rattle.double_bits.proofs.Nans.{pattern_plain}

-- A pattern up to +∞'s is no NaN's.
pub pattern_number : (n : ℕ) → n ≤ 0x7ff0_0000_0000_0000 → T (not (nan_bits binary64 n))
pattern_number n h =
    let m : n % 0x8000_0000_0000_0000 ≡ n = mod-eq_of_lt (omega arith) in
    pattern_plain n (rw m h)

-- A float is no NaN where its own pattern is below +∞'s.
pub bits_number : (x : Float) → to_bits binary64 x < 0x7ff0_0000_0000_0000 → T (not (is_nan x))
unfolding to_bits is_nan
bits_number nan h = omega arith
bits_number (inf s) h = tt
bits_number (fin s m e) h = tt
