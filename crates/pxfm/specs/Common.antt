-- Products with a sum after them (document 01, src/common.rs).
-- `f_fmla` rounds twice, since the reference is the build without fma.
use Rattle.std.specs.Prelude.{Float}
use Rattle.std.specs.Float.{binary64}
use Rattle.std.specs.Float.Ieee.{add, mul}
use Rattle.pxfm.specs.DoubleDouble.{dd_f64_mul_add}

-- a × b + c in two roundings.
unfoldable pub f_fmla : Float → Float → Float → Float
f_fmla a b c = add binary64 (mul binary64 a b) c

-- a × b + c by the product's pair.
abbrev pub dd_fmla : Float → Float → Float → Float
dd_fmla a b c = dd_f64_mul_add a b c
