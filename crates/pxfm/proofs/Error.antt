-- How far a rounded sum is from the exact one: at most 2 ^ -53 of its size, so at most e units below 2 ^ 53 * (e + 1) units.
-- A size of more than 53 digits is rounded to the multiple of a power of two that is nearest to it. `Off` carries such a
-- bound through a chain of sums and differences, one line for each operation. Assumes nothing.
use Rattle.std.proofs.Common.{◌≡◌, ℕ, suc, ◌+◌, ◌-◌, ◌*◌, ◌/◌, ◌%◌, ◌^◌, ◌<◌, ◌≤◌, Bool, true, false, not, T, ltb, sym, refl, ap, ◌∙◌, subst, le_trans, le_of_eq, lt_of_le_of_lt, mul-le-mul_right, mod-lt, mul-pos, div-add-mod', mul-div_cancel, arith, eqb→eq, ltb→lt, leb→le, nltb→le, pow_pos, pow-add, shl_lt, shr_lt}
use Prim.Native.Nat.{compare, Ordering}
use lib.Dec.{is_le, compare_is_eq, nleb→lt}
use lib.Pow.{pow-lt}
use lib.Ieee.{Float, Format, binary64, prec, emax, low, size, nearest, units, round, add, sub}
use lib.Ieee.Digits.{size-lt, size-le, size_reaches}
use lib.Ieee.Exact.{HasValue, units_val}
use lib.Ieee.Fits.{core, round_is, nearest-le}
use lib.Ieee.Nearest.{closest, closest_same}
use Rattle.double_bits.proofs.Digits.{size_above, size_exact}
use Rattle.pxfm.proofs.Value.{Gap, Val, Rounds, add_rounds, sub_rounds}
use Rattle.pxfm.proofs.Exact.{round_few}

-- ---- rounding to a multiple of 2 ^ k

pub closest_near : (m b : ℕ) → 0 < b → (2 * (b * closest m b) ≤ 2 * m + b) × (2 * m ≤ 2 * (b * closest m b) + b)
closest_near m b B =
    go (compare (m % b * 2) b) (leb→le (m % b * 2) b) (nleb→lt (m % b * 2) b) (eqb→eq (m % b * 2) b) (div-add-mod' m b) (mod-lt m B)
  where
    odd_le : (q : ℕ) → q % 2 ≤ 1
    odd_le q = omega arith

    go : (o : Ordering) → (T (is_le o) → m % b * 2 ≤ b) → (T (not (is_le o)) → b < m % b * 2) → (T (compare_is_eq o) → m % b * 2 ≡ b)
        → m / b * b + m % b ≡ m → m % b < b
        → (2 * (b * nearest (m / b) o) ≤ 2 * m + b) × (2 * m ≤ 2 * (b * nearest (m / b) o) + b)
    go Ordering.lt h k e d l = omega (arith, h tt)
    go Ordering.eq h k e d l = omega (arith, e tt, mul-le-mul_right b (odd_le (m / b)))
    go Ordering.gt h k e d l = omega (arith, k tt)

-- A size of m * 2 ^ j units, where m has k digits more than the format.
module _ (f : Format) (s : Bool) (num den m a k j : ℕ) (D : 0 < den) (A : suc a ≡ prec f) (lo : 2 ^ (a + k) ≤ m)
    (hi : m < 2 ^ (prec f + k)) (val : num * 2 ^ low f ≡ m * 2 ^ j * den) where
  digits_dropped : size (num * 2 ^ low f / den) - prec f ≡ k + j
  digits_dropped =
      let w : num * 2 ^ low f / den ≡ m * 2 ^ j = ap (λ (z : ℕ). z / den) val ∙ mul-div_cancel (m * 2 ^ j) D in
      let e : suc (a + k + j) ≡ prec f + k + j = omega arith in
      let z : size (m * 2 ^ j) ≡ suc (a + k + j) =
      size_exact (a + k + j) (m * 2 ^ j) (le_trans (le_of_eq (pow-add 2 (a + k) j)) (mul-le-mul_right (2 ^ j) lo))
      (rw e (shl_lt (prec f + k) j hi)) in
      ap (λ (y : ℕ). size y - prec f) w ∙ omega arith

  rounds_to_closest : round f s num den ≡ units f s (closest m (2 ^ k)) (k + j)
  rounds_to_closest =
      let e : m * 2 ^ j * den * 2 ^ k ≡ m * (den * (2 ^ k * 2 ^ j)) = omega arith in
      let h = ap (λ (z : ℕ). z * 2 ^ k) val ∙ e ∙ ap (λ (z : ℕ). m * (den * z)) (sym (pow-add 2 k j)) in
      round_is f s num den
      ∙ ap (λ (x : ℕ). core f s (num * 2 ^ low f) den x) digits_dropped
      ∙ ap (λ (x : ℕ). units f s x (k + j))
      (closest_same (num * 2 ^ low f) (den * 2 ^ (k + j)) m (2 ^ k) (mul-pos D (pow_pos (k + j))) (pow_pos k) h)

  pub closest_value : prec f + (k + j) < low f + suc (emax f)
      → HasValue (round f s num den) s (2 ^ k * closest m (2 ^ k) * 2 ^ j) (2 ^ low f)
  closest_value r =
      let c = closest m (2 ^ k) in
      let u = 2 ^ (k + j) in
      let small : c ≤ 2 ^ prec f = le_trans (nearest-le (m / 2 ^ k) (compare (m % 2 ^ k * 2) (2 ^ k))) (shr_lt (prec f) k hi) in
      let e : c * (2 ^ k * 2 ^ j) ≡ 2 ^ k * c * 2 ^ j = omega arith in
      let fine = lt_of_le_of_lt (le_trans (mul-le-mul_right u small) (le_of_eq (sym (pow-add 2 (prec f) (k + j))))) (pow-lt r) in
      subst (λ (z : ℕ). HasValue (round f s num den) s z (2 ^ low f)) (ap (λ (z : ℕ). c * z) (pow-add 2 k j) ∙ e)
      (rw rounds_to_closest (units_val f s c (k + j) fine))

-- ---- a size of m * 2 ^ j units, rounded to g * 2 ^ j of them

-- The difference of g and m is at most 2 ^ -53 of m.
record NearSize (s : Bool) (num den m j : ℕ) : Type 0 where
  g : ℕ
  val : HasValue (round binary64 s num den) s (g * 2 ^ j) (2 ^ low binary64)
  over : 2 ^ 53 * g ≤ 2 ^ 53 * m + m
  under : 2 ^ 53 * m ≤ 2 ^ 53 * g + m

half_step_over : (m g k : ℕ) → 2 * g ≤ 2 * m + 2 ^ k → 2 ^ (52 + k) ≤ m → 2 ^ 53 * g ≤ 2 ^ 53 * m + m
half_step_over m g k h l = let e : 2 ^ (52 + k) ≡ 2 ^ 52 * 2 ^ k = pow-add 2 52 k in omega arith

half_step_under : (m g k : ℕ) → 2 * m ≤ 2 * g + 2 ^ k → 2 ^ (52 + k) ≤ m → 2 ^ 53 * m ≤ 2 ^ 53 * g + m
half_step_under m g k h l = let e : 2 ^ (52 + k) ≡ 2 ^ 52 * 2 ^ k = pow-add 2 52 k in omega arith

module _ (s : Bool) (num den m j K : ℕ) (D : 0 < den) (val : num * 2 ^ low binary64 ≡ m * 2 ^ j * den) (top : m < 2 ^ (53 + K))
    (room : K + j ≤ 2044) where
  many_digits : 2 ^ 53 ≤ m → NearSize s num den m j
  many_digits h =
      let z : 53 < size m = size_above 53 m h in
      let z' : size m ≤ 53 + K = size-le m (53 + K) top in
      let k = size m - 53 in
      let e : size m ≡ 53 + k = omega arith in
      let lo : 2 ^ (52 + k) ≤ m = size_reaches m (52 + k) (omega arith) in
      let hi : m < 2 ^ (53 + k) = subst (λ (y : ℕ). m < 2 ^ y) e (size-lt m) in
      let g = 2 ^ k * closest m (2 ^ k) in
      let c = closest_near m (2 ^ k) (pow_pos k) in
      record {
        g = g;
        val = closest_value binary64 s num den m 52 k j D refl lo hi val (omega arith);
        over = half_step_over m g k c.0 lo;
        under = half_step_under m g k c.1 lo;
      }

  few_digits : m < 2 ^ 53 → NearSize s num den m j
  few_digits h = record { g = m; val = round_few binary64 s num den m j D val h (omega arith); over = omega arith; under = omega arith }

  round_near : NearSize s num den m j
  round_near = go (ltb m (2 ^ 53)) (ltb→lt m (2 ^ 53)) (nltb→le m (2 ^ 53))
    where
      go : (t : Bool) → (T t → m < 2 ^ 53) → (T (not t) → 2 ^ 53 ≤ m) → NearSize s num den m j
      go true h k = few_digits (h tt)
      go false h k = many_digits (k tt)

-- ---- a signed number p - n of 2 ^ j units

-- x is up - down, no further from p - n than 2 ^ -53 of its size.
pub record Close (x : Float) (p n j : ℕ) : Type 0 where
  pub up : ℕ
  pub down : ℕ
  pub val : Val binary64 x up down j
  pub over : 2 ^ 53 * (up + n) ≤ 2 ^ 53 * (p + down) + ((p - n) + (n - p))
  pub under : 2 ^ 53 * (p + down) ≤ 2 ^ 53 * (up + n) + ((p - n) + (n - p))

-- x is up - down, no further from p - n than e.
pub record Off (x : Float) (p n j e : ℕ) : Type 0 where
  pub up : ℕ
  pub down : ℕ
  pub val : Val binary64 x up down j
  pub over : up + n ≤ p + down + e
  pub under : p + down ≤ up + n + e

gap_size : (s : Bool) (m p n : ℕ) → Gap s m p n → m ≡ (p - n) + (n - p)
gap_size false m p n g = omega arith
gap_size true m p n g = omega arith

module _ {x : Float} {p n j : ℕ} (v : Rounds binary64 x p n j) where
  pub close : (K : ℕ) → (p < n + 2 ^ (53 + K)) × (n < p + 2 ^ (53 + K)) × (K + j ≤ 2044) → Close x p n j
  close K h =
      let e = gap_size v.sign v.mag p n v.gap in
      go v.sign refl v.gap (round_near v.sign v.num v.den v.mag j K v.den_pos v.val (omega arith) h.2)
    where
      go : (s : Bool) → v.sign ≡ s → Gap s v.mag p n → NearSize v.sign v.num v.den v.mag j → Close x p n j
      go false q g r =
          record {
            up = r.g;
            down = 0;
            val = record { sign = v.sign; mag = r.g; val = rw v.is r.val; gap = rw q (omega arith) };
            over = omega (arith, r.over, r.under);
            under = omega (arith, r.over, r.under);
          }
      go true q g r =
          record {
            up = 0;
            down = r.g;
            val = record { sign = v.sign; mag = r.g; val = rw v.is r.val; gap = rw q (omega arith) };
            over = omega (arith, r.over, r.under);
            under = omega (arith, r.over, r.under);
          }

  pub off : (e K : ℕ) → (p < n + 2 ^ 53 * e + 2 ^ 53) × (n < p + 2 ^ 53 * e + 2 ^ 53) × (e < 2 ^ K) × (K + j ≤ 2044) → Off x p n j e
  off e K h =
      let q : 2 ^ (53 + K) ≡ 2 ^ 53 * 2 ^ K = pow-add 2 53 K in
      let c = close K (omega arith) in
      record {
        up = c.up;
        down = c.down;
        val = c.val;
        over = omega (arith, c.over, c.under);
        under = omega (arith, c.over, c.under);
      }

-- ---- operations on numbers that are known up to an error

pub off_none : {x : Float} {p n j : ℕ} → Val binary64 x p n j → Off x p n j 0
off_none {p = p} {n = n} v = record { up = p; down = n; val = v; over = omega arith; under = omega arith }

-- The result is p' - n'. Below 2 ^ 53 * (c + 1) units its rounding adds c to the error.
module _ {x y : Float} {p n q m j e d : ℕ} (c K p' n' : ℕ) (v : Off x p n j e) (w : Off y q m j d) where
  pub add_off : (p + q + n' ≡ p' + (n + m)) × (p' + (e + d) < n' + 2 ^ 53 * c + 2 ^ 53) × (n' + (e + d) < p' + 2 ^ 53 * c + 2 ^ 53)
      × (c < 2 ^ K) × (K + j ≤ 2044)
      → Off (add binary64 x y) p' n' j (e + d + c)
  add_off h = go (off (add_rounds v.val w.val) c K (omega arith))
    where
      go : Off (add binary64 x y) (v.up + w.up) (v.down + w.down) j c → Off (add binary64 x y) p' n' j (e + d + c)
      go r = record { up = r.up; down = r.down; val = r.val; over = omega arith; under = omega arith }

  pub sub_off : (p + m + n' ≡ p' + (n + q)) × (p' + (e + d) < n' + 2 ^ 53 * c + 2 ^ 53) × (n' + (e + d) < p' + 2 ^ 53 * c + 2 ^ 53)
      × (c < 2 ^ K) × (K + j ≤ 2044)
      → Off (sub binary64 x y) p' n' j (e + d + c)
  sub_off h = go (off (sub_rounds v.val w.val) c K (omega arith))
    where
      go : Off (sub binary64 x y) (v.up + w.down) (v.down + w.up) j c → Off (sub binary64 x y) p' n' j (e + d + c)
      go r = record { up = r.up; down = r.down; val = r.val; over = omega arith; under = omega arith }
