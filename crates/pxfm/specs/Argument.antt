-- The pair that `f_erfcinv` hands to `erf_core`: 1 - x, or 1 - (2 - x) above 1 (document 01, src/err/inverfc.rs).
-- Stated apart from the quantile, so that the laws on its size need nothing else.
use Rattle.std.specs.Prelude.{cond, from_bits, Float}
use Rattle.std.specs.Float.{binary64}
use Rattle.std.specs.Float.Ieee.{lt}
use Rattle.pxfm.specs.declared.double_double.DoubleDouble.{DoubleDouble}
use Rattle.pxfm.specs.DoubleDouble.{new_of, one, two, neg_of, from_exact_add, from_full_exact_sub, full_add_f64}

-- The double 0.
abbrev pub zero : Float
zero = from_bits binary64 0

-- The double 0.1: below it the logarithm is that of x itself.
abbrev pub tenth : Float
tenth = from_bits binary64 0x3fb9_9999_9999_999a

-- The double 0.75: above it erf_core takes a logarithm.
abbrev pub three_quarters : Float
three_quarters = from_bits binary64 0x3fe8_0000_0000_0000

-- x itself, or 2 - x above 1.
unfoldable pub mirrored_of : Float → DoubleDouble
mirrored_of x = cond (lt one x) (from_full_exact_sub two x) (new_of zero x)

-- 1 - d, its parts added up.
unfoldable pub complement : DoubleDouble → DoubleDouble
complement d =
    let dx = full_add_f64 (neg_of d) one in
    from_exact_add dx.hi dx.lo

-- What erf_core is given for x.
unfoldable pub core_argument : Float → DoubleDouble
core_argument x = complement (mirrored_of x)
