-- Whole numbers of 2 ^ -60, which is 2 ^ 1014 units of the smallest double: every double of at least 2 ^ -8 in size is one, and each that is below
-- 2 ^ 53 is shown. Assumes nothing.
use mathlib.Core.Path.{◌≡◌, ◌∙◌, subst}
use mathlib.Core.Bool.{Bool, true}
use Prim.Native.Nat.{ℕ, ◌*◌, ◌^◌, ◌≤◌, ◌<◌}
use native.Mathlib.Nat.{mul_assoc, mul_right_comm, mul-le-mul_right, eq_of_mul-eq-mul_right}
use native.Mathlib.Omega.{arith}
use borrow.Author.Tests.{lt-ltb}
use lib.Dec.{T}
use lib.Pow.{pow_pos}
use lib.Ieee.{Float, nan, inf, fin, binary64, up, down, fits, to_bits}
use lib.Ieee.Bits.{is_true, of_bits-to_bits}
use lib.Ieee.Exact.{HasValue}
use lib.Ieee.Positive.{num, den, den_pos}
use lib.Ieee.Scale.{finite}
use Rattle.pxfm.proofs.Units.{units_multiple}
use Rattle.text_ticks.specs.Ticks.{in_range}
use Rattle.law_bounds.specs.Interval.{SizeAtMost}
use Rattle.text_decimal.specs.Decimal.{is_shown, exact_text}
use Rattle.text_decimal.specs.Meaning.{IsExact}
use Rattle.text_decimal.proofs.Shown.{units_shown}
use Rattle.text_decimal.proofs.Exactly.{exact_text_lem}
use Rattle.law_shown.specs.Shown.{Exact}

-- x is a whole number of 2 ^ -60
pub record Multiple (x : Float) : Type 0 where
  pub s : Bool
  pub q : ℕ
  pub val : HasValue x s (q * 2 ^ 1014) (2 ^ 1074)

pub multiple : (x : Float) (s : Bool) (m : ℕ) → T (fits binary64 x) → HasValue x s m (2 ^ 1074) → 2 ^ 1066 ≤ m → Multiple x
multiple x s m f v h =
    let z = units_multiple 1014 x s m f v h in
    record { s = s; q = z.0; val = subst (λ (k : ℕ). HasValue x s k (2 ^ 1074)) z.1 v }

in_sixtieths : (x : Float) (h : Multiple x) → num x * 2 ^ 60 ≡ h.q * den x
in_sixtieths x h = go x h.s h.q h.val
  where
    scaled : (n d q l : ℕ) → 0 < l → n * (2 ^ 60 * l) ≡ q * l * d → n * 2 ^ 60 ≡ q * d
    scaled n d q l L e = eq_of_mul-eq-mul_right l L (n * 2 ^ 60) (q * d) (mul_assoc n (2 ^ 60) l ∙ e ∙ mul_right_comm q l d)

    go : (x : Float) (s : Bool) (q : ℕ) → HasValue x s (q * 2 ^ 1014) (2 ^ 1074) → num x * 2 ^ 60 ≡ q * den x
    go nan s q v = absurd v
    go (inf t) s q v = absurd v
    go (fin t m e) s q v = scaled (m * up e) (down e) q (2 ^ 1014) (pow_pos 1014) v.1

-- at most k in size, and so in range
pub in_range_lem : (x : Float) (k : ℕ) → k < 2 ^ 53 → SizeAtMost x k → in_range x ≡ true
unfolding in_range
in_range_lem x k h a = rw (is_true (finite x) a.is_finite, lt-ltb (num x) (2 ^ 53 * den x) (less (num x) (den x) (den_pos x) a.size))
  where
    less : (n d : ℕ) → 0 < d → n ≤ k * d → n < 2 ^ 53 * d
    less n d D i = let j = mul-le-mul_right d h in omega arith

pub exact_of : (x : Float) → T (fits binary64 x) → in_range x ≡ true → Multiple x → Exact x
exact_of x f r h =
    let b = to_bits binary64 x in
    let s = subst (λ (y : Float). in_range y ≡ true → num y * 2 ^ 60 ≡ h.q * den y → is_shown y ≡ true) (of_bits-to_bits binary64 x f)
    (units_shown b h.q) r (in_sixtieths x h) in
    let t = subst (λ (y : Float). is_shown y ≡ true → IsExact y (exact_text y)) (of_bits-to_bits binary64 x f) (exact_text_lem b) s in
    record { shown = s; exact = t }
