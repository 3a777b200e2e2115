-- The inverse error function of document 02 (2026-11): `f_erfinv` of every double, over `erf_core` of the port. The Rust's function of that
-- name (src/err/inverf.rs) has other steps and is tried beside it; this definition rules.
use Rattle.std.specs.Prelude.{ℕ, Bool, false, cond, ◌||◌, from_bits, is_nan, to_bits, Float}
use Rattle.std.specs.Float.{nan, inf, fin, binary64}
use Rattle.std.specs.Float.Ieee.{eq, lt}
use Rattle.pxfm.specs.DoubleDouble.{one, new_of, to_f64}
use Rattle.pxfm.specs.Argument.{zero}
use Rattle.pxfm.specs.Inverfc.{erf_core}

-- the double with this sign, true for minus, and the size of x
unfoldable pub with_sign : Bool → Float → Float
with_sign s nan = nan
with_sign s (inf t) = inf s
with_sign s (fin t m e) = fin s m e

-- the size of x
abbrev pub size_of : Float → Float
size_of = with_sign false

-- a size beyond 1, or a NaN
abbrev pub beyond_one : Float → Bool
beyond_one a = lt one a || is_nan a

-- ±0 gives itself, ±1 the infinity of that sign, beyond and NaN give NaN; else `erf_core` of the pair with high part the size of x and low part +0,
-- made a double, with the sign of x
unfoldable pub f_erfinv : Float → Float
f_erfinv x =
    let minus = lt x zero in
    let a = size_of x in
    cond (eq x zero) x
    (cond (eq a one) (inf minus)
    (cond (beyond_one a) nan
    (with_sign minus (to_f64 (erf_core (new_of zero a))))))

-- The same over bit patterns. `to_bits` gives 7ff8000000000000 for a NaN.
abbrev pub f_erfinv_bits : ℕ → ℕ
f_erfinv_bits b = to_bits binary64 (f_erfinv (from_bits binary64 b))
