-- A value as a whole number with a sign: what `scaled` is, by the two numbers whose difference it is. Assumes nothing.
use mathlib.Core.Path.{◌≡◌, sym, ap, ◌∙◌}
use mathlib.Core.Bool.{Bool, true, false, not, cond}
use Prim.Native.Nat.{ℕ, zero, suc, ◌+◌, ◌-◌, ◌*◌, ◌/◌, ◌^◌, ◌≤◌, ◌<◌}
use native.Mathlib.Nat.{mul-div_cancel}
use native.Mathlib.Omega.{arith}
use lib.Dec.{T, ltb, ltb→lt, nltb→le}
use lib.IntN.{ℤ, pos, negsuc, neg_ℤ, sub_ℕ, ◌+ℤ◌, ◌-ℤ◌, ◌*ℤ◌}
use lib.Ieee.{Float, nan, inf, fin, binary64, up, down, fits}
use lib.Ieee.Exact.{HasValue}
use lib.Ieee.Fits.{down_pos}
use Rattle.pxfm.proofs.Value.{Gap, Val}
use Rattle.pxfm.proofs.Product.{cross_gap}
use Rattle.pxfm.proofs.Units.{in_units}
use Rattle.law_exact.specs.Scaled.{size_of, scaled}

-- ---- z is p - n

abbrev Is : ℤ → ℕ → ℕ → Type 0
Is (pos k) p n = k + n ≡ p
Is (negsuc k) p n = suc k + p ≡ n

pub record Difference (z : ℤ) (p n : ℕ) : Type 0 where
  pub is : Is z p n

pub difference_same : {z : ℤ} {p n : ℕ} (q m : ℕ) → p + m ≡ q + n → Difference z p n → Difference z q m
difference_same {z = pos k} q m e h = record { is = omega (arith, h.is) }
difference_same {z = negsuc k} q m e h = record { is = omega (arith, h.is) }

pub difference_unique : {z w : ℤ} {p n q m : ℕ} → p + m ≡ q + n → Difference z p n → Difference w q m → z ≡ w
difference_unique {z = pos k} {w = pos l} e h g = ap pos (omega arith)
difference_unique {z = pos k} {w = negsuc l} e h g = absurd (omega arith)
difference_unique {z = negsuc k} {w = pos l} e h g = absurd (omega arith)
difference_unique {z = negsuc k} {w = negsuc l} e h g = ap negsuc (omega arith)

difference_sub : (a b p n : ℕ) → a + n ≡ b + p → Difference (sub_ℕ a b) p n
difference_sub a b p n e = go (ltb a b) (ltb→lt a b) (nltb→le a b)
  where
    go : (t : Bool) → (T t → a < b) → (T (not t) → b ≤ a) → Difference (cond t (negsuc (b - suc a)) (pos (a - b))) p n
    go true h k = let h' = h tt in record { is = omega arith }
    go false h k = let k' = k tt in record { is = omega arith }

difference_neg : (a p n : ℕ) → a + p ≡ n → Difference (neg_ℤ (pos a)) p n
difference_neg zero p n h = record { is = omega arith }
difference_neg (suc a) p n h = record { is = omega arith }

pub difference_add : {z w : ℤ} {p n q m : ℕ} → Difference z p n → Difference w q m → Difference (z +ℤ w) (p + q) (n + m)
difference_add {z = pos k} {w = pos l} h g = record { is = omega arith }
difference_add {z = pos k} {w = negsuc l} {p = p} {n = n} {q = q} {m = m} h g = difference_sub k (suc l) (p + q) (n + m) (omega arith)
difference_add {z = negsuc k} {w = pos l} {p = p} {n = n} {q = q} {m = m} h g = difference_sub l (suc k) (p + q) (n + m) (omega arith)
difference_add {z = negsuc k} {w = negsuc l} h g = record { is = omega arith }

difference_turned : {z : ℤ} {p n : ℕ} → Difference z p n → Difference (neg_ℤ z) n p
difference_turned {z = pos zero} h = record { is = omega (arith, h.is) }
difference_turned {z = pos (suc k)} h = record { is = h.is }
difference_turned {z = negsuc k} h = record { is = h.is }

pub difference_less : {z w : ℤ} {p n q m : ℕ} → Difference z p n → Difference w q m → Difference (z -ℤ w) (p + m) (n + q)
difference_less h g = difference_add h (difference_turned g)

pub difference_mul : {z w : ℤ} {p n q m : ℕ} → Difference z p n → Difference w q m → Difference (z *ℤ w) (p * q + n * m) (p * m + n * q)
difference_mul {z = pos k} {w = pos l} {p = p} {n = n} {q = q} {m = m} h g = record { is = cross_gap k l p n q m h.is g.is }
difference_mul {z = pos k} {w = negsuc l} {p = p} {n = n} {q = q} {m = m} h g =
    difference_neg (k * suc l) (p * q + n * m) (p * m + n * q) (cross_gap k (suc l) p n m q h.is g.is)
difference_mul {z = negsuc k} {w = pos l} {p = p} {n = n} {q = q} {m = m} h g =
    difference_neg (suc k * l) (p * q + n * m) (p * m + n * q) (omega (arith, cross_gap (suc k) l n p q m h.is g.is))
difference_mul {z = negsuc k} {w = negsuc l} {p = p} {n = n} {q = q} {m = m} h g =
    record { is = omega (arith, cross_gap (suc k) (suc l) n p m q h.is g.is) }

pub whole_difference : (l : ℕ) → Difference (pos l) l 0
whole_difference l = record { is = omega arith }

-- ---- a float

pub size_of_value : (x : Float) (s : Bool) (a : ℕ) → HasValue x s a (2 ^ 1074) → size_of x ≡ a
unfolding size_of
size_of_value nan s a h = absurd h
size_of_value (inf t) s a h = absurd h
size_of_value (fin t m e) s a h = ap (λ (z : ℕ). z / down e) h.1 ∙ mul-div_cancel a (down_pos e)

-- Nothing is cut off in `size_of`.
pub size_of_whole : (s : Bool) (m : ℕ) (e : ℤ) → T (fits binary64 (fin s m e)) → size_of (fin s m e) * down e ≡ m * up e * 2 ^ 1074
size_of_whole s m e f =
    let u = in_units s m e f in
    ap (λ (z : ℕ). z * down e) (size_of_value (fin s m e) s (m * 2 ^ u.w) u.val) ∙ sym u.val.1

signed_difference : (t : Bool) (x m p n u : ℕ) → x ≡ m * u → Gap t m p n → Difference (cond t (neg_ℤ (pos x)) (pos x)) (p * u) (n * u)
signed_difference false x m p n u e g = record { is = omega (arith, ap (λ (z : ℕ). z * u) g) }
signed_difference true x m p n u e g = difference_neg x (p * u) (n * u) (omega (arith, ap (λ (z : ℕ). z * u) g))

pub scaled_difference : {x : Float} {p n j : ℕ} → Val binary64 x p n j → Difference (scaled x) (p * 2 ^ j) (n * 2 ^ j)
unfolding scaled
scaled_difference {x = nan} v = absurd v.val
scaled_difference {x = inf t} v = absurd v.val
scaled_difference {x = fin t m e} {p = p} {n = n} {j = j} v =
    signed_difference t (size_of (fin t m e)) v.mag p n (2 ^ j) (size_of_value (fin t m e) v.sign (v.mag * 2 ^ j) v.val)
    (rw v.val.0 v.gap)
