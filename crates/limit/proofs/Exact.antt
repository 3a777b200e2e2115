-- A whole number up to 2^53 is a double: its cast is admitted, and below 2^53 the double has exactly its value.
-- Assumes nothing.
use mathlib.Core.Path.{sym}
use mathlib.Core.Bool.{false}
use Prim.Native.Nat.{ℕ, suc, ◌+◌, ◌*◌, ◌^◌, ◌≤◌, ◌<◌}
use native.Mathlib.Nat.{mul-one, lt_of_lt_of_le}
use native.Mathlib.Omega.{arith}
use lib.Dec.{T, le→leb}
use lib.IntN.{pos}
use lib.Pow.{shl_lt, pow_mono}
use lib.Ieee.{Format, binary64, prec, emax, low, round, of_int, in_float}
use lib.Ieee.Exact.{HasValue, round_exact}
use lib.Ieee.Fits.{reach}
use Rattle.limit.specs.Formula.{double}

pub cast_exact : (n : ℕ) → n ≤ 2 ^ 53 → T (in_float binary64 (pos n))
unfolding in_float
cast_exact n h = le→leb n (2 ^ 53) h

whole_exact : (f : Format) (n : ℕ) → n < 2 ^ prec f → HasValue (round f false n 1) false n 1
whole_exact f n h =
    let fine : n * 2 ^ low f < 2 ^ (low f + suc (emax f))
    = lt_of_lt_of_le (shl_lt (prec f) (low f) h) (pow_mono (omega (arith, reach f))) in
    round_exact f false n 1 n (low f) (omega arith) h fine (sym (mul-one (n * 2 ^ low f)))

pub double_exact : (n : ℕ) → n < 2 ^ 53 → HasValue (double n) false n 1
unfolding of_int
double_exact n h = whole_exact binary64 n h
