-- Sums with +0 and -0: -0 added changes no double, and +0 added changes -0 alone, to +0. Assumes nothing.
use mathlib.Core.Path.{◌≡◌, refl, sym, ap, ◌∙◌}
use mathlib.Core.Logic.{◌⊎◌, inl, inr}
use mathlib.Core.Bool.{Bool, true, false}
use Prim.Native.Nat.{ℕ, zero, suc, ◌*◌, ◌^◌, ◌<◌}
use native.Mathlib.Nat.{zero-mul, mul-pos}
use native.Mathlib.Omega.{arith}
use lib.Dec.{T}
use lib.Pow.{pow_pos}
use lib.Ieee.{Float, nan, inf, fin, binary64, up, down, fits, of_bits, neg, add, sub}
use lib.Ieee.Bits.{of_bits-fits}
use lib.Ieee.Exact.{HasValue}
use lib.Ieee.Scale.{finite}
use Rattle.double_bits.proofs.Patterns.{value_unique}
use Rattle.pxfm.specs.Argument as argument
use Rattle.pxfm.proofs.FirstTests.{minus_zero}
use Rattle.pxfm.proofs.Value.{Val, add_rounds}
use Rattle.pxfm.proofs.Product.{rounds_same}
use Rattle.pxfm.proofs.Units.{in_units, val_whole, val_whole_negative}
use Rattle.pxfm.proofs.Ranges.{zero_val}
use Rattle.law_exact.proofs.Own.{rounds_own}

-- ---- the three kinds of finite doubles

-- p - n units, not zero
pub record Number (x : Float) : Type 0 where
  pub p : ℕ
  pub n : ℕ
  pub val : Val binary64 x p n 0
  pub apart : p ≡ n → ⊥

some : (a : ℕ) → 0 < a → a ≡ 0 → ⊥
some a h e = omega arith

pub number_of_lem : {x : Float} (s : Bool) (a : ℕ) → HasValue x s a (2 ^ 1074) → 0 < a → Number x
number_of_lem false a v h = record { p = a; n = 0; val = val_whole v; apart = some a h }
number_of_lem true a v h = record { p = 0; n = a; val = val_whole_negative v; apart = λ e. some a h (sym e) }

pub zero_is : (x : Float) (s : Bool) → T (fits binary64 x) → HasValue x s 0 (2 ^ 1074) → (x ≡ argument.zero) ⊎ (x ≡ minus_zero)
unfolding of_bits
zero_is x false f v = inl (value_unique binary64 x argument.zero false 0 f (of_bits-fits binary64 0) v (refl, refl))
zero_is x true f v = inr (value_unique binary64 x minus_zero true 0 f (of_bits-fits binary64 (2 ^ 63)) v (refl, refl))

pub kind_of_lem : (x : Float) → T (fits binary64 x) → T (finite x) → ((x ≡ argument.zero) ⊎ (x ≡ minus_zero)) ⊎ Number x
kind_of_lem nan f t = absurd t
kind_of_lem (inf s) f t = absurd t
kind_of_lem (fin s zero e) f t = inl (zero_is (fin s zero e) s f (refl, none (up e) (down e) (2 ^ 1074)))
  where
    none : (u d l : ℕ) → 0 * u * l ≡ 0 * d
    none u d l = omega arith
kind_of_lem (fin s (suc m) e) f t =
    let u = in_units s (suc m) e f in
    inr (number_of_lem s (suc m * 2 ^ u.w) u.val (mul-pos {m = suc m} (omega arith) (pow_pos u.w)))

-- ---- sums with a zero

pub minus_zero_val : (j : ℕ) → Val binary64 minus_zero 0 0 j
unfolding of_bits
minus_zero_val j = record { sign = true; mag = 0; val = (refl, sym (ap (λ (z : ℕ). z * 1) (zero-mul (2 ^ j)))); gap = refl }

module _ {x y : Float} (f : T (fits binary64 x)) (k : Number x) (v : Val binary64 y 0 0 0) where
  pub number_and : add binary64 x y ≡ x
  number_and = rounds_own (rounds_same k.p k.n (omega arith) (add_rounds k.val v)) k.val f k.apart

  pub and_number : add binary64 y x ≡ x
  and_number = rounds_own (rounds_same k.p k.n (omega arith) (add_rounds v k.val)) k.val f k.apart

pub record ZeroSums : Type 0 where
  pub plus_plus : add binary64 argument.zero argument.zero ≡ argument.zero
  pub plus_minus : add binary64 argument.zero minus_zero ≡ argument.zero
  pub minus_plus : add binary64 minus_zero argument.zero ≡ argument.zero
  pub minus_minus : add binary64 minus_zero minus_zero ≡ minus_zero
  pub minus_is : neg argument.zero ≡ minus_zero
  pub plus_is : neg minus_zero ≡ argument.zero

pub zero_sums : ZeroSums
unfolding add neg of_bits
zero_sums = record { plus_plus = refl; plus_minus = refl; minus_plus = refl; minus_minus = refl; minus_is = refl; plus_is = refl }

add_minus_finite : (x : Float) → T (fits binary64 x) → T (finite x) → add binary64 x minus_zero ≡ x
add_minus_finite x f t = go (kind_of_lem x f t)
  where
    go : ((x ≡ argument.zero) ⊎ (x ≡ minus_zero)) ⊎ Number x → add binary64 x minus_zero ≡ x
    go (inl (inl e)) = ap (λ (z : Float). add binary64 z minus_zero) e ∙ zero_sums.plus_minus ∙ sym e
    go (inl (inr e)) = ap (λ (z : Float). add binary64 z minus_zero) e ∙ zero_sums.minus_minus ∙ sym e
    go (inr k) = number_and f k (minus_zero_val 0)

pub add_minus_zero : (x : Float) → T (fits binary64 x) → add binary64 x minus_zero ≡ x
unfolding add of_bits
add_minus_zero nan f = refl
add_minus_zero (inf s) f = refl
add_minus_zero (fin s m e) f = add_minus_finite (fin s m e) f tt

pub sub_zero : (x : Float) → T (fits binary64 x) → sub binary64 x argument.zero ≡ x
unfolding sub
sub_zero x f = ap (λ (z : Float). add binary64 x z) zero_sums.minus_is ∙ add_minus_zero x f

add_zero_finite : (x : Float) → T (fits binary64 x) → T (finite x) → (add binary64 x argument.zero ≡ x) ⊎ (x ≡ minus_zero)
add_zero_finite x f t = go (kind_of_lem x f t)
  where
    go : ((x ≡ argument.zero) ⊎ (x ≡ minus_zero)) ⊎ Number x → (add binary64 x argument.zero ≡ x) ⊎ (x ≡ minus_zero)
    go (inl (inl e)) = inl (ap (λ (z : Float). add binary64 z argument.zero) e ∙ zero_sums.plus_plus ∙ sym e)
    go (inl (inr e)) = inr e
    go (inr k) = inl (number_and f k (zero_val 0))

pub add_zero : (x : Float) → T (fits binary64 x) → (add binary64 x argument.zero ≡ x) ⊎ (x ≡ minus_zero)
unfolding add of_bits
add_zero nan f = inl refl
add_zero (inf s) f = inl refl
add_zero (fin s m e) f = add_zero_finite (fin s m e) f tt
