-- Two doubles that are the same number away from zero are the same double, and a double less itself is +0.
-- Assumes nothing.
use Rattle.std.proofs.Common.{◌≡◌, ℕ, ◌+◌, ◌-◌, ◌*◌, ◌^◌, ◌<◌, Bool, true, false, cond, not, ◌&&◌, T, ltb, sym, refl, ap, ◌∙◌, subst, mul-pos, zero-mul, arith, lit<, lit≤, ltb→lt}
use mathlib.Core.Bool.{beq}
use lib.Ieee.{Float, nan, inf, fin, binary64, up, down, fits, of_bits, sum, round, add, sub, neg}
use lib.Ieee.Exact.{HasValue}
use lib.Ieee.Fits.{round-fits, down_pos}
use lib.Ieee.Bits.{of_bits-fits}
use Rattle.double_bits.proofs.Patterns.{value_unique}
use Rattle.pxfm.proofs.Value.{Gap, Val}
use Rattle.pxfm.proofs.Exact.{round_few}

pub val_unique : {x y : Float} {p n q m j : ℕ} → T (fits binary64 x) → T (fits binary64 y) → Val binary64 x p n j → Val binary64 y q m j
    → p + m ≡ q + n → (p ≡ n → ⊥) → x ≡ y
val_unique {x = x} {y = y} {p = p} {n = n} {q = q} {m = m} {j = j} f g v w e d =
    go v.sign w.sign v.gap w.gap v.val w.val
  where
    same_sign : (s : Bool) → v.mag ≡ w.mag → HasValue x s (v.mag * 2 ^ j) (2 ^ 1074) → HasValue y s (w.mag * 2 ^ j) (2 ^ 1074) → x ≡ y
    same_sign s r h k = value_unique binary64 x y s (v.mag * 2 ^ j) f g h (subst (λ (z : ℕ). HasValue y s (z * 2 ^ j) (2 ^ 1074)) (sym r) k)

    go : (s t : Bool) → Gap s v.mag p n → Gap t w.mag q m → HasValue x s (v.mag * 2 ^ j) (2 ^ 1074)
        → HasValue y t (w.mag * 2 ^ j) (2 ^ 1074) → x ≡ y
    go false false a b h k = same_sign false (omega arith) h k
    go true true a b h k = same_sign true (omega arith) h k
    go false true a b h k = absurd (d (omega arith))
    go true false a b h k = absurd (d (omega arith))

-- ---- a double less itself

round_zero : (c : ℕ) → 0 < c → round binary64 false 0 c ≡ of_bits binary64 0
round_zero c C =
    value_unique binary64 (round binary64 false 0 c) (of_bits binary64 0) false 0 (round-fits binary64 false 0 c) (of_bits-fits binary64 0)
    (round_few binary64 false 0 c 0 0 C (sym (zero-mul c)) (lit< tt) (lit≤ tt)) zero_value
  where
    zero_value : HasValue (of_bits binary64 0) false 0 (2 ^ 1074)
    zero_value = unfold of_bits in (refl, refl)

sum_opposite : (s : Bool) (a c : ℕ) → 0 < c → sum binary64 s a (not s) a c ≡ of_bits binary64 0
unfolding sum
sum_opposite s a c C = go s (ltb a a) (ltb→lt a a)
  where
    none : a - a ≡ 0
    none = omega arith

    go : (s b : Bool) → (T b → a < a)
        → cond (beq s (not s)) (round binary64 s (a + a) c) (cond b (round binary64 (not s) (a - a) c) (round binary64 (s && b) (a - a) c))
        ≡ of_bits binary64 0
    go s true h = absurd (omega (arith, h tt))
    go true false h = ap (λ (z : ℕ). round binary64 false z c) none ∙ round_zero c C
    go false false h = ap (λ (z : ℕ). round binary64 false z c) none ∙ round_zero c C

pub sub_self : (x : Float) (s : Bool) (a l : ℕ) → HasValue x s a l → sub binary64 x x ≡ of_bits binary64 0
unfolding sub add neg
sub_self nan s a l h = absurd h
sub_self (inf t) s a l h = absurd h
sub_self (fin t m e) s a l h = sum_opposite t (m * up e * down e) (down e * down e) (mul-pos (down_pos e) (down_pos e))
