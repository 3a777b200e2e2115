-- The square root of a float, correctly rounded (document 01, Root; IEEE 754 section 5.4.1): to nearest, a tie to the even value. Definitions only.
-- They go as the standard does: special operands, the exact root as a whole number with its remainder, one rounding.
use Rattle.std.specs.Prelude.{ℕ, zero, suc, ◌+◌, ◌-◌, ◌*◌, ◌/◌, ◌^◌, ◌<◌, ◌≤◌, true, false, cond, ◌==◌, nat_le, Float}
use Rattle.std.specs.Float.{nan, inf, fin, Format, binary64}
use Rattle.std.specs.Float.Ieee.{low, size, round}
use Rattle.std.specs.Float.Ieee.Positive.{num, den}

-- s is the whole root of n: its square is at most n, and its successor's square is above n
pub record IsRoot (n s : ℕ) : Type 0 where
  pub low : s * s ≤ n
  pub high : n < (s + 1) * (s + 1)

-- the whole root of an n below 4 ^ k: twice the root of n / 4, or one more
unfoldable pub isqrt_to : ℕ → ℕ → ℕ
isqrt_to zero n = 0
isqrt_to (suc k) n = let s = 2 * isqrt_to k (n / 4) in s + cond (nat_le ((s + 1) * (s + 1)) n) 1 0

-- the whole root of n (`isqrt_is`): n has `size n` binary digits, so it is below 4 ^ size n
unfoldable pub isqrt : ℕ → ℕ
unfolding isqrt_to size
isqrt n = isqrt_to (size n) n

-- One rounding, from a whole root s and its remainder r: to the value of f nearest to the root * 2 ^ z, counted in f's smallest values, 2 ^ -low.
-- Where r is 0 the root is s. Elsewhere it lies strictly between s and s + 1, and s + 1/2 stands for it: no value of f and no midpoint of
-- two neighbours lies strictly between s and s + 1, where s has more binary digits than f keeps.
unfoldable pub round_root : Format → ℕ → ℕ → ℕ → Float
unfolding round
round_root f s r z = round f false ((2 * s + cond (r == 0) 0 1) * 2 ^ z) (2 * 2 ^ low f)

-- the value of f nearest to the root of n, counted in f's smallest values
unfoldable pub round_sqrt : Format → ℕ → Float
unfolding isqrt round_root
round_sqrt f n = let s = isqrt n in round_root f s (n - s * s) 0

-- A finite x above zero as a whole number: in units of the square of f's smallest value, so that its root counts smallest values.
-- The division is exact, since the denominator of a value of f divides 2 ^ low.
abbrev pub radicand : Format → Float → ℕ
radicand f x = num x * 4 ^ low f / den x

-- the square root of x, rounded to the format f
unfoldable pub sqrt_in : Format → Float → Float
unfolding round_sqrt
sqrt_in f nan = nan
sqrt_in f (inf true) = nan
sqrt_in f (inf false) = inf false
sqrt_in f (fin s zero e) = fin s zero e
sqrt_in f (fin true (suc m) e) = nan
sqrt_in f (fin false (suc m) e) = round_sqrt f (radicand f (fin false (suc m) e))

-- the square root of a double: document 01's Root
abbrev pub sqrt_of : Float → Float
sqrt_of x = sqrt_in binary64 x
