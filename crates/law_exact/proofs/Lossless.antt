-- Where an operation's result is the number itself, in units of a power of two, it is so of scaled whole numbers. Assumes nothing.
use mathlib.Core.Path.{◌≡◌, sym, ap, ◌∙◌}
use mathlib.Core.Bool.{Bool, true, false}
use Prim.Native.Nat.{ℕ, ◌+◌, ◌-◌, ◌*◌, ◌^◌}
use native.Mathlib.Nat.{add_comm}
use native.Mathlib.Omega.{arith}
use lib.Dec.{T}
use lib.Pow.{pow-add}
use lib.IntN.{ℤ, pos, ◌+ℤ◌, ◌-ℤ◌, ◌*ℤ◌}
use lib.Ieee.{Float, nan, inf, fin, binary64, unlike}
use lib.Ieee.Scale.{finite}
use Rattle.pxfm.proofs.Value.{Gap, Val}
use Rattle.law_exact.specs.Scaled.{scale, size_of, scaled}
use Rattle.law_exact.proofs.Signed.{Turned, Signed}
use Rattle.law_exact.proofs.Integers.{Difference, difference_same, difference_unique, difference_add, difference_less, difference_mul, whole_difference}
use Rattle.law_exact.proofs.Integers.{size_of_value, scaled_difference}

pub finite_signed : {s : Bool} {x : Float} {p n j : ℕ} → Signed s x p n j → T (finite x)
finite_signed {s = false} {x = nan} v = absurd v.is.val
finite_signed {s = false} {x = inf t} v = absurd v.is.val
finite_signed {s = false} {x = fin t m e} v = tt
finite_signed {s = true} {x = nan} v = absurd v.is.val
finite_signed {s = true} {x = inf t} v = absurd v.is.val
finite_signed {s = true} {x = fin t m e} v = tt

size_of_lem : {x : Float} {p n j : ℕ} → Val binary64 x p n j → size_of x ≡ ((p - n) + (n - p)) * 2 ^ j
size_of_lem {x = x} {p = p} {n = n} {j = j} v =
    size_of_value x v.sign (v.mag * 2 ^ j) v.val ∙ ap (λ (k : ℕ). k * 2 ^ j) (size v.sign v.mag v.gap)
  where
    size : (s : Bool) (a : ℕ) → Gap s a p n → a ≡ (p - n) + (n - p)
    size false a g = omega arith
    size true a g = omega arith

-- z is p - n, or n - p where s is true
pub record Apart (s : Bool) (z : ℤ) (p n : ℕ) : Type 0 where
  pub is : Turned s (Difference z) p n

pub signed_scaled : {s : Bool} {x : Float} {p n j : ℕ} → Signed s x p n j → Apart s (scaled x) (p * 2 ^ j) (n * 2 ^ j)
signed_scaled {s = false} v = record { is = scaled_difference v.is }
signed_scaled {s = true} v = record { is = scaled_difference v.is }

-- the size of p - n
pub signed_size : {s : Bool} {x : Float} {p n j : ℕ} → Signed s x p n j → size_of x ≡ ((p - n) + (n - p)) * 2 ^ j
signed_size {s = false} v = size_of_lem v.is
signed_size {s = true} {p = p} {n = n} {j = j} v = size_of_lem v.is ∙ ap (λ (k : ℕ). k * 2 ^ j) (add_comm (n - p) (p - n))

-- ---- sums and differences: of a - b and c - d

pub sum_apart : {s : Bool} {x y : ℤ} {a b c d : ℕ} → Apart s x a b → Apart s y c d → Apart s (x +ℤ y) (a + c) (b + d)
sum_apart {s = false} h k = record { is = difference_add h.is k.is }
sum_apart {s = true} h k = record { is = difference_add h.is k.is }

less_apart : {s : Bool} {x y : ℤ} {a b c d : ℕ} → Apart s x a b → Apart s y c d → Apart s (x -ℤ y) (a + d) (b + c)
less_apart {s = false} h k = record { is = difference_less h.is k.is }
less_apart {s = true} h k = record { is = difference_less h.is k.is }

same_apart : {s : Bool} {x y : ℤ} {a b c d : ℕ} → a + d ≡ c + b → Apart s x a b → Apart s y c d → x ≡ y
same_apart {s = false} e h k = difference_unique e h.is k.is
same_apart {s = true} e h k = difference_unique (omega arith) h.is k.is

module _ {s : Bool} {x y z : Float} {p n q m p' n' j : ℕ} (v : Signed s x p n j) (w : Signed s y q m j) (r : Signed s z p' n' j) where
  pub sum_lossless : p + q + n' ≡ p' + (n + m) → scaled z ≡ scaled x +ℤ scaled y
  sum_lossless e = same_apart (omega (arith, ap (λ (k : ℕ). k * 2 ^ j) e)) (signed_scaled r) (sum_apart (signed_scaled v) (signed_scaled w))

  pub difference_lossless : p + m + n' ≡ p' + (n + q) → scaled z ≡ scaled x -ℤ scaled y
  difference_lossless e = same_apart (omega (arith, ap (λ (k : ℕ). k * 2 ^ j) e)) (signed_scaled r) (less_apart (signed_scaled v) (signed_scaled w))

-- ---- products: of a - b and c - d, where l makes up for the scale

mul_apart : {s t : Bool} {x y : ℤ} {a b c d : ℕ} → Apart s x a b → Apart t y c d → Apart (unlike s t) (x *ℤ y) (a * c + b * d) (a * d + b * c)
mul_apart {s = false} {t = false} h k = record { is = difference_mul h.is k.is }
mul_apart {s = false} {t = true} h k = record { is = difference_mul h.is k.is }
mul_apart {s = true} {t = false} {a = a} {b = b} {c = c} {d = d} h k =
    record { is = difference_same (a * d + b * c) (a * c + b * d) (omega arith) (difference_mul h.is k.is) }
mul_apart {s = true} {t = true} {a = a} {b = b} {c = c} {d = d} h k =
    record { is = difference_same (a * c + b * d) (a * d + b * c) (omega arith) (difference_mul h.is k.is) }

scale_apart : {s : Bool} {x : ℤ} {a b : ℕ} (l : ℕ) → Apart s x a b → Apart s (x *ℤ pos l) (a * l) (b * l)
scale_apart {s = false} {a = a} {b = b} l h = record { is = difference_same (a * l) (b * l) (omega arith) (difference_mul h.is (whole_difference l)) }
scale_apart {s = true} {a = a} {b = b} l h = record { is = difference_same (b * l) (a * l) (omega arith) (difference_mul h.is (whole_difference l)) }

module _ {s t : Bool} {x y z : ℤ} {a b c d p n : ℕ} (l : ℕ) (h : Apart s x a b) (k : Apart t y c d) (g : Apart (unlike s t) z p n) where
  pub product_apart : a * c + b * d + n * l ≡ p * l + (a * d + b * c) → z *ℤ pos l ≡ x *ℤ y
  product_apart e = same_apart (omega arith) (scale_apart l g) (mul_apart h k)

-- (p - n) * (q - m) = p' - n', in units u, w and g, with u * w = g * l
cross_units : (p n q m p' n' u w g l : ℕ) → p * q + n * m + n' ≡ p' + (p * m + n * q) → u * w ≡ g * l
    → p * u * (q * w) + n * u * (m * w) + n' * g * l ≡ p' * g * l + (p * u * (m * w) + n * u * (q * w))
cross_units p n q m p' n' u w g l e f =
    omega (
      arith,
      ap (λ (k : ℕ). k * (g * l)) e,
      ap (λ (k : ℕ). p * q * k) f,
      ap (λ (k : ℕ). n * m * k) f,
      ap (λ (k : ℕ). p * m * k) f,
      ap (λ (k : ℕ). n * q * k) f,
    )

pub units_product : (i k j : ℕ) → i + k ≡ j + 1074 → 2 ^ i * 2 ^ k ≡ 2 ^ j * scale
units_product i k j e = sym (pow-add 2 i k) ∙ ap (λ (z : ℕ). 2 ^ z) e ∙ pow-add 2 j 1074

module _ {s t : Bool} {x y z : Float} {p n q m p' n' i k j : ℕ} (u : i + k ≡ j + 1074) (v : Signed s x p n i) (w : Signed t y q m k)
    (r : Signed (unlike s t) z p' n' j) where
  pub mul_lossless : p * q + n * m + n' ≡ p' + (p * m + n * q) → scaled z *ℤ pos scale ≡ scaled x *ℤ scaled y
  mul_lossless e =
      product_apart scale (signed_scaled v) (signed_scaled w) (signed_scaled r)
      (cross_units p n q m p' n' (2 ^ i) (2 ^ k) (2 ^ j) scale e (units_product i k j u))
