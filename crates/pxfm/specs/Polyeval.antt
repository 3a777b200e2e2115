-- Polynomials over doubles by Horner's rule (document 01, src/polyeval.rs).
-- `polyeval_mla(x, t, a)` is `f_fmla(x, t, a)`.
use Rattle.std.specs.Prelude.{Float}
use Rattle.pxfm.specs.Common.{f_fmla}

-- a0 + a1 x + a2 x² + a3 x³
unfoldable pub f_polyeval4 : Float → Float → Float → Float → Float → Float
f_polyeval4 x a0 a1 a2 a3 = f_fmla x (f_fmla x (f_fmla x a3 a2) a1) a0

-- a0 + a1 x + a2 x² + a3 x³ + a4 x⁴
unfoldable pub f_polyeval5 : Float → Float → Float → Float → Float → Float → Float
f_polyeval5 x a0 a1 a2 a3 a4 = f_fmla x (f_fmla x (f_fmla x (f_fmla x a4 a3) a2) a1) a0
