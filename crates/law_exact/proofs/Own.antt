-- A number that is not zero rounds to one double alone, and a double's own number to that double. Assumes nothing.
use mathlib.Core.Path.{◌≡◌, sym, ap, ◌∙◌, subst}
use mathlib.Core.Bool.{Bool, true, false}
use Prim.Native.Nat.{ℕ, zero, suc, ◌+◌, ◌*◌, ◌^◌, ◌<◌}
use native.Mathlib.Nat.{eq_of_mul-eq-mul_right}
use native.Mathlib.Omega.{arith}
use lib.Dec.{T}
use lib.Pow.{pow_pos}
use lib.IntN.{ℤ}
use lib.Ieee.{Float, nan, inf, fin, binary64, up, down, fits, round}
use lib.Ieee.Exact.{HasValue, round_exact}
use lib.Ieee.Fits.{down_pos, round-fits}
use lib.Ieee.Scale.{round_same}
use Rattle.sqrt.proofs.Counted.{counted}
use Rattle.double_bits.proofs.Patterns.{value_unique}
use Rattle.pxfm.proofs.Value.{Gap, Val, Rounds}
use Rattle.pxfm.proofs.Exact.{value_same}

pub fits_sign : (s t : Bool) (m : ℕ) (e : ℤ) → T (fits binary64 (fin s m e)) → T (fits binary64 (fin t m e))
unfolding fits
fits_sign s t zero e f = f
fits_sign s t (suc m) e f = f

-- x / d is u / l, and it is n / c
crossed : (x d u l n c : ℕ) → 0 < d → x * l ≡ u * d → x * c ≡ n * d → n * l ≡ u * c
crossed x d u l n c D h k =
    let a = ap (λ (z : ℕ). z * c) h in
    let b = ap (λ (z : ℕ). z * l) k in
    eq_of_mul-eq-mul_right d D (n * l) (u * c) (omega arith)

-- ---- a double's own number

pub round_own : (x : Float) (s : Bool) (n c : ℕ) → 0 < c → T (fits binary64 x) → HasValue x s n c → round binary64 s n c ≡ x
round_own nan s n c C f v = absurd v
round_own (inf t) s n c C f v = absurd v
round_own (fin t m e) s n c C f v =
    let k = counted binary64 (fin false m e) (fits_sign t false m e f) tt in
    let cross : n * 2 ^ 1074 ≡ k.u * c = crossed (m * up e) (down e) k.u (2 ^ 1074) n c (down_pos e) k.value v.1 in
    let r =
    round_exact binary64 s n c k.m k.j C k.short (subst (λ (z : ℕ). z < 2 ^ 2098) k.is k.below) (cross ∙ ap (λ (z : ℕ). z * c) k.is) in
    value_unique binary64 (round binary64 s n c) (fin t m e) s k.u (round-fits binary64 s n c) f
    (value_same (round binary64 s n c) s n c k.u (2 ^ 1074) C (sym cross) r) (v.0, k.value)

pub rounds_own : {z x : Float} {p n j : ℕ} → Rounds binary64 z p n j → Val binary64 x p n j → T (fits binary64 x) → (p ≡ n → ⊥) → z ≡ x
rounds_own {x = x} {p = p} {n = n} {j = j} r v f d = r.is ∙ go r.sign v.sign r.gap v.gap v.val
  where
    same : (s : Bool) → r.mag ≡ v.mag → HasValue x s (v.mag * 2 ^ j) (2 ^ 1074) → round binary64 s r.num r.den ≡ x
    same s e h =
        round_own x s r.num r.den r.den_pos f
        (value_same x s (v.mag * 2 ^ j) (2 ^ 1074) r.num r.den (pow_pos 1074) (r.val ∙ ap (λ (k : ℕ). k * 2 ^ j * r.den) e) h)

    go : (s t : Bool) → Gap s r.mag p n → Gap t v.mag p n → HasValue x t (v.mag * 2 ^ j) (2 ^ 1074)
        → round binary64 s r.num r.den ≡ x
    go false false a b h = same false (omega arith) h
    go true true a b h = same true (omega arith) h
    go false true a b h = absurd (d (omega arith))
    go true false a b h = absurd (d (omega arith))

-- ---- one number, from two operations

pub rounds_unique : {y z : Float} {p n q m j : ℕ} → Rounds binary64 y p n j → Rounds binary64 z q m j → p + m ≡ q + n → (p ≡ n → ⊥) → y ≡ z
rounds_unique {p = p} {n = n} {q = q} {m = m} {j = j} r w e d = r.is ∙ go r.sign w.sign r.gap w.gap ∙ sym w.is
  where
    cross : (a b c k l g : ℕ) → 0 < l → a * l ≡ g * b → c * l ≡ g * k → a * k ≡ c * b
    cross a b c k l g L h i =
        let x = ap (λ (z : ℕ). z * k) h in
        let y = ap (λ (z : ℕ). z * b) i in
        eq_of_mul-eq-mul_right l L (a * k) (c * b) (omega arith)

    same : (s : Bool) → r.mag ≡ w.mag → round binary64 s r.num r.den ≡ round binary64 s w.num w.den
    same s e =
        round_same binary64 s r.num r.den w.num w.den r.den_pos w.den_pos
        (cross r.num r.den w.num w.den (2 ^ 1074) (w.mag * 2 ^ j) (pow_pos 1074) (r.val ∙ ap (λ (k : ℕ). k * 2 ^ j * r.den) e) w.val)

    go : (s t : Bool) → Gap s r.mag p n → Gap t w.mag q m → round binary64 s r.num r.den ≡ round binary64 t w.num w.den
    go false false a b = same false (omega arith)
    go true true a b = same true (omega arith)
    go false true a b = absurd (d (omega arith))
    go true false a b = absurd (d (omega arith))
