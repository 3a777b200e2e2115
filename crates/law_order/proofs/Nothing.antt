-- A number with nothing added to it is itself: x + 0 and x - 0 are x, for every finite x that is not zero, whichever sign the zero has.
-- Assumes nothing.
use mathlib.Core.Path.{◌≡◌, refl, sym, ap, ◌∙◌, subst}
use mathlib.Core.Bool.{Bool, true, false, not, ◌&&◌, beq, cond}
use Prim.Native.Nat.{ℕ, zero, suc, ◌+◌, ◌-◌, ◌*◌, ◌^◌, ◌<◌}
use native.Mathlib.Nat.{zero-mul, mul-pos, eq_of_mul-eq-mul_right}
use native.Mathlib.Omega.{arith}
use borrow.Author.Tests.{le-ltb, lt-ltb}
use lib.Dec.{T, ltb}
use lib.Pow.{pow_pos}
use lib.IntN.{ℤ}
use lib.Ieee.{Float, nan, inf, fin, binary64, unlike, up, down, fits, of_bits, round, sum, add, sub, mul, neg}
use lib.Ieee.Exact.{HasValue}
use lib.Ieee.Fits.{up_pos, down_pos}
use lib.Ieee.Scale.{round_same}
use Rattle.law_bounds.proofs.Operations.{neg_value}
use Rattle.law_mirror.proofs.Sign.{mul_one_is}
use Rattle.law_order.proofs.Keeps.{Units, round_none}

-- ±a / c with nothing added
sum_none : (s t : Bool) (a c : ℕ) → 0 < a → sum binary64 s a t 0 c ≡ round binary64 s a c
unfolding sum
sum_none s t a c A =
    let i : a - 0 ≡ a = omega arith in
    let j : a + 0 ≡ a = omega arith in
    let k : ltb a 0 ≡ false = le-ltb a 0 (omega arith) in
    let l : ltb 0 a ≡ true = lt-ltb 0 a A in
    rw (i, j, k, l) (go s t)
  where
    go : (s t : Bool) → cond (beq s t) (round binary64 s a c) (cond false (round binary64 t (0 - a) c) (round binary64 (s && true) a c))
        ≡ round binary64 s a c
    go false false = refl
    go false true = refl
    go true false = refl
    go true true = refl

-- the size of a zero, over another's denominator
none_across : (n u d e l : ℕ) → 0 < l → n * u * l ≡ 0 * d → n * u * e ≡ 0
none_across n u d e l L h =
    let z : n * u ≡ 0 = eq_of_mul-eq-mul_right l L (n * u) 0 (h ∙ zero-mul d ∙ sym (zero-mul l)) in
    ap (λ (k : ℕ). k * e) z ∙ zero-mul e

own : (s : Bool) (m : ℕ) (e d : ℤ) → T (fits binary64 (fin s m e)) → round binary64 s (m * up e * down d) (down e * down d) ≡ fin s m e
unfolding mul of_bits
own s m e d f = go s f
  where
    cross : (a b c : ℕ) → a * c * (b * 1) ≡ a * (1 * 1) * (b * c)
    cross a b c = omega arith

    D : 0 < down e * 1
    D = mul-pos (down_pos e) (pow_pos 0)

    same : (t : Bool) → round binary64 t (m * up e * down d) (down e * down d) ≡ round binary64 t (m * up e * (1 * 1)) (down e * 1)
    same t =
        round_same binary64 t (m * up e * down d) (down e * down d) (m * up e * (1 * 1)) (down e * 1) (mul-pos (down_pos e) (down_pos d)) D
        (cross (m * up e) (down e) (down d))

    go : (t : Bool) → T (fits binary64 (fin t m e)) → round binary64 t (m * up e * down d) (down e * down d) ≡ fin t m e
    go false f = same false ∙ mul_one_is (fin false m e) f
    go true f = same true ∙ mul_one_is (fin true m e) f

some_across : (m u d l w : ℕ) → 0 < w → 0 < l → 0 < u → m * u * l ≡ w * d → 0 < d → 0 < m * u
some_across m u d l w W L U h D = pos_of (m * u) l (subst (λ (k : ℕ). 0 < k) (sym h) (mul-pos W D))
  where
    pos_of : (a b : ℕ) → 0 < a * b → 0 < a
    pos_of zero b h = absurd (none (subst (λ (k : ℕ). 0 < k) (zero-mul b) h))
      where
        none : 0 < 0 → ⊥
        none q = omega arith
    pos_of (suc a) b h = omega arith

pub add_nothing : (x y : Float) (s t : Bool) (w : ℕ) → T (fits binary64 x) → HasValue x s w (2 ^ 1074) → 0 < w → HasValue y t 0 (2 ^ 1074)
    → add binary64 x y ≡ x
unfolding add
add_nothing nan y s t w f v W z = absurd v
add_nothing (inf b) y s t w f v W z = absurd v
add_nothing (fin b i e) nan s t w f v W z = absurd z
add_nothing (fin b i e) (inf c) s t w f v W z = absurd z
add_nothing (fin b i e) (fin c j d) s t w f v W z =
    let A = some_across i (up e) (down e) (2 ^ 1074) w W (pow_pos 1074) (up_pos e) v.1 (down_pos e) in
    rw (none_across j (up d) (down d) (down e) (2 ^ 1074) (pow_pos 1074) z.1)
    (sum_none b c (i * up e * down d) (down e * down d) (mul-pos A (down_pos d)) ∙ own b i e d f)

pub sub_nothing : (x y : Float) (s t : Bool) (w : ℕ) → T (fits binary64 x) → HasValue x s w (2 ^ 1074) → 0 < w → HasValue y t 0 (2 ^ 1074)
    → sub binary64 x y ≡ x
unfolding sub
sub_nothing x y s t w f v W z = add_nothing x (neg y) s (not t) w f v W (neg_value y t 0 z)

-- x times +0 is a zero
pub mul_nothing : (x : Float) → Units x → (t : Bool) × HasValue (mul binary64 x (of_bits binary64 0)) t 0 (2 ^ 1074)
unfolding mul of_bits
mul_nothing nan X = absurd X.val
mul_nothing (inf b) X = absurd X.val
mul_nothing (fin b i e) X = (unlike b false, round_none (unlike b false) (i * up e * (0 * 1)) (down e * 1) (mul-pos (down_pos e) (pow_pos 0)) (none (i * up e)))
  where
    none : (a : ℕ) → a * (0 * 1) ≡ 0
    none a = omega arith
