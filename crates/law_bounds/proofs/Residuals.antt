-- What is left by the corrections of a reciprocal and of a quotient is small: of 1, less the divisor times the rounded reciprocal, and of x, less y
-- times the rounded quotient. Two roundings, or three, move the product by a few units of its last place, so that what is left of it is some
-- 2 ^ -51 of it, times the ratio of the divisor's bounds, where a difference of intervals would be as wide as they are. Assumes nothing.
use mathlib.Core.Path.{◌≡◌, refl, subst}
use mathlib.Core.Bool.{Bool, true, false, not, ◌&&◌}
use Prim.Native.Nat.{ℕ, ◌+◌, ◌*◌, ◌/◌, ◌^◌, ◌≤◌, ◌<◌}
use native.Mathlib.Nat.{le_refl, le_trans, lt_of_lt_of_le, mul-pos, mul-le-mul, mul-le-mul_left, mul-le-mul_right, le-div_iff_mul-le}
use native.Mathlib.Omega.{arith}
use lib.Dec.{T, leb, ltb, leb→le, ltb→lt}
use lib.Pow.{pow_pos}
use lib.Ieee.{Float, binary64, of_bits, unlike, add, sub, mul, div, neg}
use lib.Ieee.Exact.{HasValue}
use lib.Ieee.Fits.{and_l, and_r}
use Rattle.pxfm.specs.DoubleDouble.{one}
use Rattle.law_bounds.specs.Interval.{Interval, P, N, Inside, In, about}
use Rattle.law_bounds.proofs.Arithmetic.{limit, ulp, least, most}
use Rattle.law_bounds.proofs.Rounding.{Rounded, near_fraction}
use Rattle.law_bounds.proofs.Operations.{least_le, le_most, mul_rounded, div_rounded, neg_value}
use Rattle.law_bounds.proofs.Sums.{Off, add_off, sub_off, off_value}
use Rattle.law_bounds.proofs.Products.{cancel, small}

-- r is p, up to e
pub record Near (r p e : ℕ) : Type 0 where
  pub over : r ≤ p + e
  pub under : p ≤ r + e

of_rounded : {x : Float} {s : Bool} {n c : ℕ} (r : Rounded x s n c) (k d : ℕ) → n ≤ k → c ≤ d → Near (r.m * c) n (ulp k + d)
of_rounded r k d h i = let z = near_fraction r k d h i in record { over = z.0; under = z.1 }

-- a bound of r by one of r * b, which is p of at most a, up to e
divided_le : (r p e b c a : ℕ) → 0 < c → c ≤ b → p ≤ a → Near (r * b) p e → r ≤ (a + e) / c
divided_le r p e b c a C h i n = (le-div_iff_mul-le C).1 (le_trans (mul-le-mul_left r h) (le_trans n.over (omega arith)))

cancelled : (i j z l : ℕ) → 0 < l → Near (i * l) (j * l) z → Near i j (z / l)
cancelled i j z l L n = record { over = cancel i j z l L n.over; under = cancel j i z l L n.under }

-- ---- two numbers that are near each other leave little

near_off : {x : Float} (s : Bool) (m p e : ℕ) → HasValue x s m (2 ^ 1074) → Near m p e → Off x (P s p) (N s p) e
near_off false m p e v n = off_value false m v (omega (arith, n.over)) (omega (arith, n.under))
near_off true m p e v n = off_value true m v (omega (arith, n.under)) (omega (arith, n.over))

itself : (m : ℕ) → Near m m 0
itself m = record { over = omega arith; under = omega arith }

module _ (x y : Float) (s : Bool) (p m g : ℕ) (l : g ≤ limit) (v : HasValue x s p (2 ^ 1074)) (n : Near m p g) where
  less_left : HasValue y s m (2 ^ 1074) → Off (sub binary64 x y) 0 0 (g + ulp g)
  less_left w = go (P s p) (N s p) (near_off s p p 0 v (itself p)) (near_off s m p g w n)
    where
      go : (i j : ℕ) → Off x i j 0 → Off y i j g → Off (sub binary64 x y) 0 0 (g + ulp g)
      go i j X Y = sub_off g l 0 0 (g + ulp g) X Y (omega arith)

  sum_left : HasValue y (not s) m (2 ^ 1074) → Off (add binary64 x y) 0 0 (g + ulp g)
  sum_left w = go s v w
    where
      last : (i j : ℕ) → Off x i j 0 → Off y j i g → Off (add binary64 x y) 0 0 (g + ulp g)
      last i j X Y = add_off g l 0 0 (g + ulp g) X Y (omega arith)

      go : (s : Bool) → HasValue x s p (2 ^ 1074) → HasValue y (not s) m (2 ^ 1074) → Off (add binary64 x y) 0 0 (g + ulp g)
      go false v w = last p 0 (near_off false p p 0 v (itself p)) (near_off true m p g w n)
      go true v w = last 0 p (near_off true p p 0 v (itself p)) (near_off false m p g w n)

-- ---- a rounded product

-- x is ±m, at most a in size
record Sized (x : Float) (a : ℕ) : Type 0 where
  s : Bool
  m : ℕ
  val : HasValue x s m (2 ^ 1074)
  high : m ≤ a

-- how far a rounded product of at most k is from it
abbrev times_off : ℕ → ℕ
times_off k = ulp k + 2 ^ 1074

-- and what it is at most
abbrev times_most : ℕ → ℕ
times_most k = (k + times_off k) / 2 ^ 1074

record Product (x y : Float) {a b : ℕ} (X : Sized x a) (Y : Sized y b) : Type 0 where
  m : ℕ
  val : HasValue (mul binary64 x y) (unlike X.s Y.s) m (2 ^ 1074)
  off : Near (m * 2 ^ 1074) (X.m * Y.m) (times_off (a * b))
  high : m ≤ times_most (a * b)

product : {x y : Float} {a b : ℕ} (X : Sized x a) (Y : Sized y b) → a * b ≤ limit * 2 ^ 1074 → Product x y X Y
product {x = x} {y = y} {a = a} {b = b} X Y L =
    let t = mul-le-mul X.high Y.high in
    let r = mul_rounded x y X.s Y.s X.m Y.m X.val Y.val (le_trans t L) in
    let o = of_rounded r (a * b) (2 ^ 1074) t (le_refl (2 ^ 1074)) in
    record {
      m = r.m;
      val = r.val;
      off = o;
      high = divided_le r.m (X.m * Y.m) (times_off (a * b)) (2 ^ 1074) (2 ^ 1074) (a * b) (pow_pos 1074) (le_refl (2 ^ 1074)) t o;
    }

-- ---- a rounded reciprocal

abbrev square : ℕ
square = 2 ^ 1074 * 2 ^ 1074

-- how far the reciprocal of a number of at most b units, times the number, is from 1
abbrev recip_off : ℕ → ℕ
recip_off b = ulp square + b

-- the reciprocal is at most this, where the number is at least c units
abbrev recip_most : ℕ → ℕ → ℕ
recip_most b c = (square + recip_off b) / c

one_value : HasValue one false (2 ^ 1074) (2 ^ 1074)
unfolding of_bits
one_value = (refl, refl)

record Reciprocal (y : Float) (c : ℕ) {b : ℕ} (Y : Sized y b) : Type 0 where
  m : ℕ
  val : HasValue (div binary64 one y) Y.s m (2 ^ 1074)
  off : Near (m * Y.m) square (recip_off b)
  high : m ≤ recip_most b c

reciprocal : {y : Float} {b : ℕ} (c : ℕ) (Y : Sized y b) → 0 < c → c ≤ Y.m → square ≤ limit * c → Reciprocal y c Y
reciprocal {y = y} {b = b} c Y C D L =
    let r = div_rounded one y false Y.s (2 ^ 1074) Y.m one_value Y.val (lt_of_lt_of_le C D) (le_trans L (mul-le-mul_left limit D)) in
    let o = of_rounded r square b (le_refl square) Y.high in
    record {
      m = r.m;
      val = subst (λ (u : Bool). HasValue (div binary64 one y) u r.m (2 ^ 1074)) (plain Y.s) r.val;
      off = o;
      high = divided_le r.m square (recip_off b) Y.m c square C D (le_refl square) o;
    }
  where
    plain : (t : Bool) → unlike false t ≡ t
    plain false = refl
    plain true = refl

-- ---- what a reciprocal leaves of 1

-- q is l * l / b, and w is b * q / l: w is l
recip_near : (q w b l e f : ℕ) → Near (q * b) (l * l) e → Near (w * l) (b * q) f → Near (w * l) (l * l) (e + f)
recip_near q w b l e f h k =
    record { over = omega (arith, h.over, h.under, k.over, k.under); under = omega (arith, h.over, h.under, k.over, k.under) }

abbrev recip_gap : ℕ → ℕ → ℕ
recip_gap b c = (recip_off b + times_off (b * recip_most b c)) / 2 ^ 1074

recip_small : {y : Float} {b : ℕ} (c : ℕ) (Y : Sized y b) → 0 < c → c ≤ Y.m → square ≤ limit * c → b * recip_most b c ≤ limit * 2 ^ 1074
    → recip_gap b c ≤ limit → Off (sub binary64 one (mul binary64 y (div binary64 one y))) 0 0 (recip_gap b c + ulp (recip_gap b c))
recip_small {y = y} {b = b} c Y C D L M G =
    let q = reciprocal c Y C D L in
    let w = product Y (record { s = Y.s; m = q.m; val = q.val; high = q.high }) M in
    let z = recip_near q.m w.m Y.m (2 ^ 1074) (recip_off b) (times_off (b * recip_most b c)) q.off w.off in
    let e = cancelled w.m (2 ^ 1074) (recip_off b + times_off (b * recip_most b c)) (2 ^ 1074) (pow_pos 1074) z in
    less_left one _ false (2 ^ 1074) w.m (recip_gap b c) G one_value e
    (subst (λ (u : Bool). HasValue (mul binary64 y (div binary64 one y)) u w.m (2 ^ 1074)) (twice Y.s) w.val)
  where
    twice : (t : Bool) → unlike t t ≡ false
    twice false = refl
    twice true = refl

abbrev sized : {x : Float} {a : Interval} → Inside x a → Sized x (most a)
sized v = record { s = v.s; m = v.m; val = v.val; high = le_most v }

abbrev recip_ok : Interval → Bool
recip_ok b =
    let c = least b in
    let m = most b in
    b.ok && ltb 0 c && leb square (limit * c) && leb (m * recip_most m c) (limit * 2 ^ 1074) && leb (recip_gap m c) limit

unfoldable pub recip_left : Interval → Interval
unfolding ulp
recip_left b = about (recip_ok b) (recip_gap (most b) (least b) + ulp (recip_gap (most b) (least b)))

pub recip_left_in : {y : Float} {b : Interval} → In y b → In (sub binary64 one (mul binary64 y (div binary64 one y))) (recip_left b)
unfolding recip_left
recip_left_in {y = y} {b = b} h =
    record {
      at = λ t.
          let t4 = and_l (b.ok && ltb 0 c && leb square (limit * c) && leb (m * recip_most m c) (limit * 2 ^ 1074)) _ t in
          let t3 = and_l (b.ok && ltb 0 c && leb square (limit * c)) _ t4 in
          let t2 = and_l (b.ok && ltb 0 c) _ t3 in
          let v = h.at (and_l b.ok _ t2) in
          small (recip_ok b)
          (recip_small c (sized v) (ltb→lt 0 c (and_r b.ok _ t2)) (least_le v) (leb→le _ _ (and_r (b.ok && ltb 0 c) _ t3))
          (leb→le _ _ (and_r (b.ok && ltb 0 c && leb square (limit * c)) _ t4))
          (leb→le _ _ (and_r (b.ok && ltb 0 c && leb square (limit * c) && leb (m * recip_most m c) (limit * 2 ^ 1074)) _ t)));
    }
  where
    c : ℕ
    c = least b

    m : ℕ
    m = most b

-- ---- what a quotient leaves of x

-- q is l * l / b, h is a * q / l, and w is b * h / l: w is a
quotient_near : (a b q h w l i j e f g : ℕ) → a ≤ i → b ≤ j → Near (q * b) (l * l) e → Near (h * l) (a * q) f → Near (w * l) (b * h) g
    → Near (w * (l * l)) (a * (l * l)) (g * l + j * f + i * e)
quotient_near a b q h w l i j e f g A B Q H W =
    let x = mul-le-mul_right e A in
    let y = mul-le-mul_right f B in
    record {
      over =
          let w1 = mul-le-mul_right l W.over in
          let h1 = mul-le-mul_left b H.over in
          let q1 = mul-le-mul_left a Q.over in
          omega arith;
      under =
          let w1 = mul-le-mul_right l W.under in
          let h1 = mul-le-mul_left b H.under in
          let q1 = mul-le-mul_left a Q.under in
          omega arith;
    }

-- the quotient is at most this
abbrev over_most : ℕ → ℕ → ℕ → ℕ
over_most a b c = times_most (a * recip_most b c)

abbrev over_gap : ℕ → ℕ → ℕ → ℕ
over_gap a b c = (times_off (b * over_most a b c) * 2 ^ 1074 + b * times_off (a * recip_most b c) + a * recip_off b) / square

record OverFits (a b c : ℕ) : Type 0 where
  positive : 0 < c
  recip : square ≤ limit * c
  first : a * recip_most b c ≤ limit * 2 ^ 1074
  second : b * over_most a b c ≤ limit * 2 ^ 1074
  gap : over_gap a b c ≤ limit

over_small : {x y : Float} {a b : ℕ} (c : ℕ) (X : Sized x a) (Y : Sized y b) → c ≤ Y.m → OverFits a b c
    → Off (add binary64 x (mul binary64 y (neg (mul binary64 x (div binary64 one y))))) 0 0 (over_gap a b c + ulp (over_gap a b c))
over_small {x = x} {y = y} {a = a} {b = b} c X Y D F =
    let q = reciprocal c Y F.positive D F.recip in
    let h = product X (record { s = Y.s; m = q.m; val = q.val; high = q.high }) F.first in
    let n = neg_value (mul binary64 x (div binary64 one y)) (unlike X.s Y.s) h.m h.val in
    let w = product Y (record { s = not (unlike X.s Y.s); m = h.m; val = n; high = h.high }) F.second in
    let e = times_off (b * over_most a b c) in
    let f = times_off (a * recip_most b c) in
    let z = quotient_near X.m Y.m q.m h.m w.m (2 ^ 1074) a b (recip_off b) f e X.high Y.high q.off h.off w.off in
    let k = cancelled w.m X.m (e * 2 ^ 1074 + b * f + a * recip_off b) square (mul-pos (pow_pos 1074) (pow_pos 1074)) z in
    sum_left x _ X.s X.m w.m (over_gap a b c) F.gap X.val k
    (subst (λ (u : Bool). HasValue (mul binary64 y (neg (mul binary64 x (div binary64 one y)))) u w.m (2 ^ 1074)) (signs X.s Y.s) w.val)
  where
    signs : (s t : Bool) → unlike t (not (unlike s t)) ≡ not s
    signs false false = refl
    signs false true = refl
    signs true false = refl
    signs true true = refl

abbrev over_ok : Interval → Interval → Bool
over_ok x y =
    let a = most x in
    let b = most y in
    let c = least y in
    x.ok && y.ok
    && (ltb 0 c && (leb square (limit * c) && (leb (a * recip_most b c) (limit * 2 ^ 1074)
    && (leb (b * over_most a b c) (limit * 2 ^ 1074) && leb (over_gap a b c) limit))))

unfoldable pub over_left : Interval → Interval → Interval
unfolding ulp
over_left x y = about (over_ok x y) (over_gap (most x) (most y) (least y) + ulp (over_gap (most x) (most y) (least y)))

pub over_left_in : {x y : Float} {a b : Interval} → In x a → In y b
    → In (add binary64 x (mul binary64 y (neg (mul binary64 x (div binary64 one y))))) (over_left a b)
unfolding over_left
over_left_in {a = p} {b = q} h k =
    record {
      at = λ t.
          let o = and_l (p.ok && q.ok) _ t in
          let v = h.at (and_l p.ok _ o) in
          let w = k.at (and_r p.ok _ o) in
          small (over_ok p q) (over_small c (sized v) (sized w) (least_le w) (fits (and_r (p.ok && q.ok) _ t)));
    }
  where
    a : ℕ
    a = most p

    b : ℕ
    b = most q

    c : ℕ
    c = least q

    fits : T (ltb 0 c && (leb square (limit * c) && (leb (a * recip_most b c) (limit * 2 ^ 1074)
        && (leb (b * over_most a b c) (limit * 2 ^ 1074) && leb (over_gap a b c) limit)))) → OverFits a b c
    fits t =
        let t1 = and_r (ltb 0 c) _ t in
        let t2 = and_r (leb square (limit * c)) _ t1 in
        let t3 = and_r (leb (a * recip_most b c) (limit * 2 ^ 1074)) _ t2 in
        record {
          positive = ltb→lt 0 c (and_l (ltb 0 c) _ t);
          recip = leb→le _ _ (and_l (leb square (limit * c)) _ t1);
          first = leb→le _ _ (and_l (leb (a * recip_most b c) (limit * 2 ^ 1074)) _ t2);
          second = leb→le _ _ (and_l (leb (b * over_most a b c) (limit * 2 ^ 1074)) _ t3);
          gap = leb→le _ _ (and_r (leb (b * over_most a b c) (limit * 2 ^ 1074)) _ t3);
        }
