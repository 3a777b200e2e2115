-- A polynomial's value from the results of its steps, each with its equation: for numerator and denominator alike, whatever the coefficients.
-- Assumes nothing.
use Rattle.std.proofs.Common.{◌≡◌, List}
use Rattle.pxfm.specs.declared.double_double.DoubleDouble.{DoubleDouble}
use Rattle.pxfm.specs.DoubleDouble.{mul_add}
use Rattle.pxfm.specs.Rationals.{at, paired10, paired11, paired14}

module _ (t : List DoubleDouble) where
  pub paired10_steps : (z z2 z4 z8 : DoubleDouble) {p0 p1 p2 p3 p4 q0 q1 r0 r : DoubleDouble}
      → p0 ≡ mul_add z (at t 1) (at t 0) → p1 ≡ mul_add z (at t 3) (at t 2) → p2 ≡ mul_add z (at t 5) (at t 4)
      → p3 ≡ mul_add z (at t 7) (at t 6) → p4 ≡ mul_add z (at t 9) (at t 8)
      → q0 ≡ mul_add z2 p1 p0 → q1 ≡ mul_add z2 p3 p2 → r0 ≡ mul_add z4 q1 q0 → r ≡ mul_add z8 p4 r0
      → r ≡ paired10 t z z2 z4 z8
  unfolding paired10
  paired10_steps z z2 z4 z8 e0 e1 e2 e3 e4 f0 f1 g h = rw (h, g, f1, f0, e4, e3, e2, e1, e0)

  pub paired11_steps : (q z z2 z4 z8 : DoubleDouble) {q0 q1 q2 q3 q4 r0 r1 s0 a10 s1 r : DoubleDouble}
      → q0 ≡ q → q1 ≡ mul_add (at t 3) z (at t 2) → q2 ≡ mul_add (at t 5) z (at t 4)
      → q3 ≡ mul_add (at t 7) z (at t 6) → q4 ≡ mul_add (at t 9) z (at t 8)
      → r0 ≡ mul_add z2 q1 q0 → r1 ≡ mul_add z2 q3 q2 → s0 ≡ mul_add z4 r1 r0 → a10 ≡ at t 10 → s1 ≡ mul_add z2 a10 q4 → r ≡ mul_add z8 s1 s0
      → r ≡ paired11 t q z z2 z4 z8
  unfolding paired11
  paired11_steps q z z2 z4 z8 e0 e1 e2 e3 e4 f0 f1 g0 e10 g1 h = rw (h, g1, e10, g0, f1, f0, e4, e3, e2, e1, e0)

  pub paired14_steps : (z z2 z4 z8 : DoubleDouble) {g0 g1 g2 g3 g4 g5 g6 h0 h1 h2 q0 q1 r : DoubleDouble}
      → g0 ≡ mul_add z (at t 1) (at t 0) → g1 ≡ mul_add z (at t 3) (at t 2) → g2 ≡ mul_add z (at t 5) (at t 4) → g3 ≡ mul_add z (at t 7) (at t 6)
      → g4 ≡ mul_add z (at t 9) (at t 8) → g5 ≡ mul_add z (at t 11) (at t 10) → g6 ≡ mul_add z (at t 13) (at t 12)
      → h0 ≡ mul_add z2 g1 g0 → h1 ≡ mul_add z2 g3 g2 → h2 ≡ mul_add z2 g5 g4
      → q0 ≡ mul_add z4 h1 h0 → q1 ≡ mul_add z4 g6 h2 → r ≡ mul_add z8 q1 q0
      → r ≡ paired14 t z z2 z4 z8
  unfolding paired14
  paired14_steps z z2 z4 z8 e0 e1 e2 e3 e4 e5 e6 f0 f1 f2 k0 k1 h = rw (h, k1, k0, f2, f1, f0, e6, e5, e4, e3, e2, e1, e0)
