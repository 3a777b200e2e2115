-- Where a pattern is a NaN's, and what the tests `x != x` and `is_nan` say of a value.
-- The kit has one NaN with no bits, so all its patterns stand for it. Assumes nothing.
use mathlib.Core.Path.{◌≡◌, refl}
use mathlib.Core.Bool.{true, false, not}
use Prim.Native.Nat.{ℕ, ◌*◌, ◌<◌, ◌≤◌, ◌%◌, ◌^◌}
use native.Mathlib.Omega.{arith}
use borrow.Author.Tests.{lt-ltb, le-ltb}
use denote.Floats.{passes}
use lib.Dec.{T}
use lib.Ieee.{Float, nan, inf, fin, binary64, of_bits, nan_bits, is_nan, ne}
use lib.Ieee.Compare.{differs_from_itself}
use lib.Ieee.Bits.{nan_bits_above, nan_bits_is}

-- the test x != x, both ways
pub is_nan_lem : (x : Float) → ne x x ≡ true → x ≡ nan
is_nan_lem x e = differs_from_itself x (passes (ne x x) e)

pub no_nan : (x : Float) → ne x x ≡ false → is_nan x ≡ false
unfolding ne is_nan
no_nan nan e = e
no_nan (inf s) e = refl
no_nan (fin s m k) e = refl

pub nan_only : (x : Float) → is_nan x ≡ true → x ≡ nan
unfolding is_nan
nan_only nan e = refl
nan_only (inf s) e = cc
nan_only (fin s m k) e = cc

-- a pattern is a NaN's where it is above the infinity's, its sign left out
pub pattern_nan : (b : ℕ) → 2047 * 2 ^ 52 < b % 2 ^ 63 → of_bits binary64 b ≡ nan
pattern_nan b h = nan_only (of_bits binary64 b) (rw (← nan_bits_is, nan_bits_above, lt-ltb (2047 * 2 ^ 52) (b % 2 ^ 63) h))

pub pattern_plain : (b : ℕ) → b % 2 ^ 63 ≤ 2047 * 2 ^ 52 → T (not (nan_bits binary64 b))
pattern_plain b h = rw (nan_bits_above, le-ltb (2047 * 2 ^ 52) (b % 2 ^ 63) h) tt

pub pattern_finite : (b : ℕ) → b ≤ 2047 * 2 ^ 52 → T (not (nan_bits binary64 b))
pattern_finite b h = pattern_plain b (omega arith)
