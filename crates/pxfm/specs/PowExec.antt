-- The polynomial behind the logarithms' table (document 01, src/pow_exec.rs: `log_poly_1` alone).
-- It stands for log(1 + z) - z at a small z.
use Rattle.std.specs.Prelude.{ℕ, List, [], ◌∷◌, from_bits, Float}
use Rattle.std.specs.Float.{binary64}
use Rattle.std.specs.Float.Ieee.{neg, mul}
use Rattle.pxfm.specs.declared.double_double.DoubleDouble.{DoubleDouble}
use Rattle.pxfm.specs.DoubleDouble.{new_of, from_exact_mult}
use Rattle.pxfm.specs.Common.{dd_fmla}
use Rattle.log_tables.specs.Rows.{entry_at}

-- The double 0.5.
abbrev pub half : Float
half = from_bits binary64 0x3fe0_0000_0000_0000

-- The coefficients from z³ on, divided by z³.
unfoldable pub p1 : List ℕ
p1 =
    0x3fd5555555555558 ∷
    0xbfd0000000000003 ∷
    0x3fc999999981f535 ∷
    0xbfc55555553d1eb4 ∷
    0x3fc2494526fd4a06 ∷
    0xbfc0001f0c80e8ce ∷
    []

-- -z²/2 as the high part and what is left of it with the cubic and higher terms as the low part.
unfoldable pub log_poly1 : Float → DoubleDouble
log_poly1 z =
    let w = from_exact_mult z z in
    let t = dd_fmla (entry_at p1 5) z (entry_at p1 4) in
    let u = dd_fmla (entry_at p1 3) z (entry_at p1 2) in
    let v = dd_fmla (entry_at p1 1) z (entry_at p1 0) in
    let u2 = dd_fmla t w.hi u in
    let v2 = dd_fmla u2 w.hi v in
    let u3 = mul binary64 v2 w.hi in
    new_of (dd_fmla u3 z (mul binary64 (neg half) w.lo)) (mul binary64 (neg half) w.hi)
