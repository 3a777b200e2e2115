-- What the test `positive_finite` shows of a double's bit pattern.
-- Assumes nothing.
use Rattle.std.proofs.Common.{◌≡◌, ℕ, ◌<◌, true, ltb, arith, ltb→lt}
use lib.Ieee.{Float, binary64, to_bits}
use lib.Ieee.Fits.{and_l, and_r}
use denote.Floats.{passes}
use Rattle.pxfm.specs.Checked.{positive_finite}

-- A number that is not 0 is above 0.
pub positive : {n : ℕ} → (n ≡ 0 → ⊥) → 0 < n
positive {n} h = omega arith

pub positive_finite_bits : (x : Float) → positive_finite x ≡ true → (0 < to_bits binary64 x) × (to_bits binary64 x < 0x7ff0_0000_0000_0000)
unfolding positive_finite
positive_finite_bits x e =
    let b = to_bits binary64 x in
    let t = passes (positive_finite x) e in
    (ltb→lt 0 b (and_l (ltb 0 b) _ t), ltb→lt b 0x7ff0_0000_0000_0000 (and_r (ltb 0 b) _ t))
