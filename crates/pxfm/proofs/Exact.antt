-- Where an operation is exact: the exact result is 2 ^ i times a whole number that has no more digits than the format.
-- The library rounds such a fraction to itself; here the fraction is the number of `Rounds`. Assumes nothing.
use Rattle.std.proofs.Common.{◌≡◌, ℕ, suc, ◌+◌, ◌-◌, ◌*◌, ◌^◌, ◌<◌, ◌≤◌, Bool, true, false, sym, ap, ◌∙◌, subst, lt_of_lt_of_le, mul_assoc, mul_right_comm, arith, pow_pos, pow_mono, pow-add, shl_lt}
use native.Mathlib.Nat.{le_of_mul-le-mul_left, eq_of_mul-eq-mul_right}
use lib.Ieee.{Float, nan, inf, fin, Format, binary64, prec, emax, low, up, down, round}
use lib.Ieee.Exact.{HasValue, round_exact}
use Rattle.pxfm.proofs.Value.{Gap, Val, Rounds, gap_same, val_same}

-- A value as another fraction of the same size.
pub value_same : (x : Float) (s : Bool) (w l num den : ℕ) → 0 < l → num * l ≡ w * den → HasValue x s w l → HasValue x s num den
value_same nan s w l num den p h v = v
value_same (inf t) s w l num den p h v = v
value_same (fin t m e) s w l num den p h v = (
  v.0,
  eq_of_mul-eq-mul_right l p (m * up e * den) (num * down e)
      (mul_right_comm (m * up e) den l
      ∙ ap (λ (x : ℕ). x * den) v.1
      ∙ mul_right_comm w (down e) den
      ∙ ap (λ (x : ℕ). x * down e) (sym h)
      ∙ mul_right_comm num l (down e)),
)

-- A fraction of m * 2 ^ j units, with few digits in m, rounds to itself.
pub round_few : (f : Format) (s : Bool) (num den m j : ℕ) → 0 < den → num * 2 ^ low f ≡ m * 2 ^ j * den → m < 2 ^ prec f
    → prec f + j ≤ low f + suc (emax f) → HasValue (round f s num den) s (m * 2 ^ j) (2 ^ low f)
round_few f s num den m j D e l r =
    value_same (round f s num den) s num den (m * 2 ^ j) (2 ^ low f) D (sym e)
    (round_exact f s num den m j D l (lt_of_lt_of_le (shl_lt (prec f) j l) (pow_mono r)) e)

-- a is a multiple of w, with a quotient below b.
abbrev Multiple : ℕ → ℕ → ℕ → Type 0
Multiple a w b = (q : ℕ) × ((q < b) × (a ≡ q * w))

difference_multiple : (w a p n b : ℕ) → 0 < w → p < b + n → a + w * n ≡ w * p → Multiple a w b
difference_multiple w a p n b W l g =
    let o : n ≤ p = le_of_mul-le-mul_left {k = w} (omega arith) W in
    (p - n, (omega arith, go (p - n) (omega arith)))
  where
    go : (q : ℕ) → q + n ≡ p → a ≡ q * w
    go q e = let e' = ap (λ (z : ℕ). w * z) e in omega arith

gap_multiple : (s : Bool) (w a p n b : ℕ) → 0 < w → p < b + n → n < b + p → Gap s a (w * p) (w * n) → Multiple a w b
gap_multiple false w a p n b W l k g = difference_multiple w a p n b W l g
gap_multiple true w a p n b W l k g = difference_multiple w a n p b W k g

pub exact : {f : Format} {x : Float} {p n j : ℕ} → Rounds f x p n j → (i p' n' : ℕ) → p + 2 ^ i * n' ≡ 2 ^ i * p' + n
    → p' < 2 ^ prec f + n' → n' < 2 ^ prec f + p' → prec f + (i + j) ≤ low f + suc (emax f) → Val f x (2 ^ i * p') (2 ^ i * n') j
exact {f = f} {x = x} {p = p} {n = n} {j = j} v i p' n' e l k r =
    let g = gap_same v.sign v.mag p n (2 ^ i * p') (2 ^ i * n') e v.gap in
    let d = gap_multiple v.sign (2 ^ i) v.mag p' n' (2 ^ prec f) (pow_pos i) l k g in
    let q = d.0 in
    let a : v.mag * 2 ^ j ≡ q * 2 ^ (i + j) =
    ap (λ (z : ℕ). z * 2 ^ j) d.1.1 ∙ mul_assoc q (2 ^ i) (2 ^ j) ∙ ap (λ (z : ℕ). q * z) (sym (pow-add 2 i j)) in
    let h = round_few f v.sign v.num v.den q (i + j) v.den_pos (v.val ∙ ap (λ (z : ℕ). z * v.den) a) d.1.0 r in
    record {
      sign = v.sign;
      mag = v.mag;
      val = rw v.is (subst (λ (z : ℕ). HasValue (round f v.sign v.num v.den) v.sign z (2 ^ low f)) (sym a) h);
      gap = g;
    }

-- The same for a double, with what is asked in one place for `omega`.
module _ {x : Float} {p n j : ℕ} (v : Rounds binary64 x p n j) where
  pub exact64_at : (i p' n' : ℕ) → (i + j ≤ 2045) × (p + 2 ^ i * n' ≡ 2 ^ i * p' + n) × (p' < 2 ^ 53 + n') × (n' < 2 ^ 53 + p')
      → Val binary64 x (2 ^ i * p') (2 ^ i * n') j
  exact64_at i p' n' h = exact v i p' n' h.1 h.2 h.3 (omega arith)

  pub exact64 : (p' n' : ℕ) → (j ≤ 2045) × (p + n' ≡ p' + n) × (p' < 2 ^ 53 + n') × (n' < 2 ^ 53 + p') → Val binary64 x p' n' j
  exact64 p' n' h = val_same p' n' (omega arith) (exact64_at 0 p' n' (omega arith))
