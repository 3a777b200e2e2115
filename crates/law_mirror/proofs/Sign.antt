-- A product with 1 is the double itself, a product with -1 the double with the other sign, of every double; and the other sign is
-- the sign bit flipped, of every double but a NaN. Assumes nothing.
use mathlib.Core.Path.{◌≡◌, refl}
use mathlib.Core.Bool.{Bool, true, false, true≢false}
use Prim.Native.Nat.{ℕ, ◌+◌, ◌*◌, ◌%◌, ◌^◌, ◌<◌}
use native.Mathlib.Nat.{mul-one}
use native.Mathlib.Omega.{arith}
use lib.Dec.{T}
use lib.IntN.{ℤ}
use lib.Ieee.{Float, nan, inf, fin, binary64, up, down, fits, of_bits, to_bits, is_nan, round, mul, neg}
use lib.Ieee.Bits.{to_bits-lt}
use lib.Ieee.Fits.{down_pos}
use Rattle.pxfm.specs.DoubleDouble.{one}
use Rattle.law_exact.proofs.Own.{fits_sign, round_own}
use Rattle.law_mirror.specs.Mirror.{flip_sign}

-- ---- products with 1 and -1

round_itself : (t : Bool) (m : ℕ) (e : ℤ) → T (fits binary64 (fin t m e)) → round binary64 t (m * up e * (1 * 1)) (down e * 1) ≡ fin t m e
round_itself t m e f =
    round_own (fin t m e) t (m * up e * (1 * 1)) (down e * 1) (rw mul-one (down_pos e)) f (refl, once (m * up e) (down e))
  where
    once : (n d : ℕ) → n * (d * 1) ≡ n * (1 * 1) * d
    once n d = omega arith

pub mul_one_is : (x : Float) → T (fits binary64 x) → mul binary64 x one ≡ x
unfolding mul of_bits
mul_one_is nan f = refl
mul_one_is (inf true) f = refl
mul_one_is (inf false) f = refl
mul_one_is (fin true m e) f = round_itself true m e f
mul_one_is (fin false m e) f = round_itself false m e f

pub mul_minus_one_is : (x : Float) → T (fits binary64 x) → mul binary64 x (neg one) ≡ neg x
unfolding mul of_bits neg
mul_minus_one_is nan f = refl
mul_minus_one_is (inf true) f = refl
mul_minus_one_is (inf false) f = refl
mul_minus_one_is (fin true m e) f = round_itself false m e (fits_sign true false m e f)
mul_minus_one_is (fin false m e) f = round_itself true m e (fits_sign false true m e f)

-- ---- the sign bit

flip_clear : (a b : ℕ) → 2 ^ 63 + a + b < 2 ^ 64 → 2 ^ 63 + a + b ≡ (0 + a + b + 2 ^ 63) % 2 ^ 64
flip_clear a b h = omega arith

flip_set : (a b : ℕ) → 2 ^ 63 + a + b < 2 ^ 64 → 0 + a + b ≡ (2 ^ 63 + a + b + 2 ^ 63) % 2 ^ 64
flip_set a b h = omega arith

pub neg_bits : (x : Float) → T (fits binary64 x) → is_nan x ≡ false → to_bits binary64 (neg x) ≡ flip_sign (to_bits binary64 x)
unfolding to_bits neg is_nan flip_sign
neg_bits nan f n = absurd (true≢false n)
neg_bits (inf true) f n = refl
neg_bits (inf false) f n = refl
neg_bits (fin true m e) f n = flip_set _ _ (to_bits-lt binary64 (fin true m e) f)
neg_bits (fin false m e) f n = flip_clear _ _ (to_bits-lt binary64 (fin true m e) (fits_sign false true m e f))
