-- A finite double is a whole number of at most 53 digits times a power of two, counted in units of the smallest double,
-- 2 ^ -1074; so from 2 ^ (52 + i) units on it is a multiple of 2 ^ i units. This is what `fits` says, read in units.
-- Assumes nothing.
use Rattle.std.proofs.Common.{◌≡◌, ℕ, zero, suc, ◌+◌, ◌-◌, ◌*◌, ◌%◌, ◌^◌, ◌<◌, ◌≤◌, Bool, true, false, ◌&&◌, T, eqb, ltb, leb, ℤ, pos, negsuc, sym, refl, ap, ◌∙◌, subst, le_trans, le_of_eq, lt_of_le_of_lt, mul_assoc, zero-mul, mul-one, arith, lit<, ltb→lt, leb→le, pow-add, shl_lt}
use native.Mathlib.Nat.{eq_of_mul-eq-mul_right}
use lib.Ieee.{Float, nan, inf, fin, binary64, up, down, fits}
use lib.Ieee.Exact.{HasValue}
use lib.Ieee.Fits.{and_l, and_r, down_pos}
use Rattle.double_bits.proofs.Digits.{lt_of_pow_lt}
use Rattle.pxfm.proofs.Value.{Val}

-- The number is m * 2 ^ w units.
pub record InUnits (s : Bool) (m : ℕ) (e : ℤ) : Type 0 where
  pub w : ℕ
  pub small : m < 2 ^ 53
  pub val : HasValue (fin s m e) s (m * 2 ^ w) (2 ^ 1074)

pub in_units : (s : Bool) (m : ℕ) (e : ℤ) → T (fits binary64 (fin s m e)) → InUnits s m e
unfolding fits
in_units s zero e f =
    record { w = 0; small = omega arith; val = (refl, ap (λ (z : ℕ). z * 2 ^ 1074) (zero-mul (up e)) ∙ sym (zero-mul (down e))) }
in_units s (suc m) (pos k) f =
    let odd = eqb (suc m % 2) 1 in
    let few = ltb (suc m) (2 ^ 53) in
    let fine = leb 1 (2 ^ 1074) in
    let f' = and_l (odd && few && fine) (ltb (suc m * 2 ^ k) (2 ^ 1024 * 1)) f in
    record {
      w = k + 1074;
      small = ltb→lt (suc m) (2 ^ 53) (and_r odd few (and_l (odd && few) fine f'));
      val = (
        refl,
        mul_assoc (suc m) (2 ^ k) (2 ^ 1074) ∙ ap (λ (z : ℕ). suc m * z) (sym (pow-add 2 k 1074)) ∙ sym (mul-one (suc m * 2 ^ (k + 1074))),
      );
    }
in_units s (suc m) (negsuc k) f =
    let odd = eqb (suc m % 2) 1 in
    let few = ltb (suc m) (2 ^ 53) in
    let fine = leb (2 ^ suc k) (2 ^ 1074) in
    let f' = and_l (odd && few && fine) (ltb (suc m * 1) (2 ^ 1024 * 2 ^ suc k)) f in
    let b = leb→le (2 ^ suc k) (2 ^ 1074) (and_r (odd && few) fine f') in
    let h : suc k < 1075 = lt_of_pow_lt (suc k) 1075 (lt_of_le_of_lt b (lit< tt)) in
    let w = 1074 - suc k in
    let e : 1074 ≡ w + suc k = omega arith in
    record {
      w = w;
      small = ltb→lt (suc m) (2 ^ 53) (and_r odd few (and_l (odd && few) fine f'));
      val = (
        refl,
        ap (λ (z : ℕ). z * 2 ^ 1074) (mul-one (suc m))
            ∙ ap (λ (z : ℕ). suc m * z) (ap (λ (z : ℕ). 2 ^ z) e ∙ pow-add 2 w (suc k))
            ∙ sym (mul_assoc (suc m) (2 ^ w) (2 ^ suc k)),
      );
    }

pub units_multiple : (i : ℕ) (x : Float) (s : Bool) (a : ℕ) → T (fits binary64 x) → HasValue x s a (2 ^ 1074) → 2 ^ (52 + i) ≤ a
    → (q : ℕ) × (a ≡ q * 2 ^ i)
units_multiple i nan s a f h l = absurd h
units_multiple i (inf t) s a f h l = absurd h
units_multiple i (fin t m e) s a f h l =
    let c = in_units t m e f in
    let w = c.w in
    let d : a ≡ m * 2 ^ w = eq_of_mul-eq-mul_right (down e) (down_pos e) a (m * 2 ^ w) (sym h.1 ∙ c.val.1) in
    let b : i ≤ w = exponent_le i w (lt_of_le_of_lt (le_trans l (le_of_eq d)) (shl_lt 53 w c.small)) in
    let e' : w ≡ w - i + i = omega arith in
    let p : 2 ^ w ≡ 2 ^ (w - i) * 2 ^ i = ap (λ (z : ℕ). 2 ^ z) e' ∙ pow-add 2 (w - i) i in
    (m * 2 ^ (w - i), d ∙ ap (λ (z : ℕ). m * z) p ∙ sym (mul_assoc m (2 ^ (w - i)) (2 ^ i)))
  where
    exponent_le : (i w : ℕ) → 2 ^ (52 + i) < 2 ^ (53 + w) → i ≤ w
    exponent_le i w h = let g = lt_of_pow_lt (52 + i) (53 + w) h in omega arith

-- A double that is not negative, as a number of 2 ^ j units.
pub val_of_units : {x : Float} {a : ℕ} (q j : ℕ) → HasValue x false a (2 ^ 1074) → a ≡ q * 2 ^ j → Val binary64 x q 0 j
val_of_units {x = x} q j h e =
    record { sign = false; mag = q; val = subst (λ (z : ℕ). HasValue x false z (2 ^ 1074)) e h; gap = omega arith }

-- The same in single units, with either sign.
pub val_whole : {x : Float} {a : ℕ} → HasValue x false a (2 ^ 1074) → Val binary64 x a 0 0
val_whole {a = a} h = val_of_units a 0 h (sym (mul-one a))

pub val_whole_negative : {x : Float} {a : ℕ} → HasValue x true a (2 ^ 1074) → Val binary64 x 0 a 0
val_whole_negative {x = x} {a = a} h =
    record { sign = true; mag = a; val = subst (λ (z : ℕ). HasValue x true z (2 ^ 1074)) (sym (mul-one a)) h; gap = omega arith }
