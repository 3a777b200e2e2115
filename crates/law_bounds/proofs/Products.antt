-- The low part of Dekker's product is small: about 2 ^ -22 of the product's bound. For all sizes, subnormals too. Assumes nothing.
-- The high half of a split is near the number, so the product of the high halves is near the product; the other terms have a low half as a factor.
use mathlib.Core.Path.{◌≡◌, refl}
use mathlib.Core.Bool.{Bool, true, false, not, ◌&&◌}
use Prim.Native.Nat.{ℕ, ◌+◌, ◌-◌, ◌*◌, ◌/◌, ◌%◌, ◌^◌, ◌≤◌, ◌<◌}
use native.Mathlib.Nat.{le_refl, le_trans, le_of_lt, mul-le-mul, mul-le-mul_right, div-add-mod', mod-lt, lt_of_not-le}
use native.Mathlib.Omega.{arith}
use lib.Dec.{T, leb, leb→le, nleb→lt}
use lib.Pow.{pow_pos}
use lib.Ieee.{Float, binary64, unlike, of_bits, sub, mul}
use lib.Ieee.Exact.{HasValue}
use lib.Ieee.Fits.{and_l, and_r}
use Rattle.pxfm.specs.DoubleDouble.{split_of, from_exact_mult}
use Rattle.law_bounds.specs.Interval.{Interval, P, N, Holds, Inside, In, about}
use Rattle.law_bounds.proofs.Arithmetic.{limit, ulp, most, over, add_b, mul_b, point_b}
use Rattle.law_bounds.proofs.Operations.{le_most, mul_rounded, mul_in, add_in, point_in, over_mul, to}
use Rattle.law_bounds.proofs.Sums.{at, Off, add_off, sub_off, off_value, exactly}

-- ---- a split

abbrev factor : Float
factor = of_bits binary64 0x41a0_0000_0200_0000

-- twice the sizes of the number and of its first product, and some
abbrev reach : Interval → ℕ
reach a = 2 * (most a + most (mul_b (point_b factor) a)) + 64

abbrev split_ok : Interval → Bool
split_ok a =
    a.ok && (mul_b (point_b factor) a).ok && leb (most a + most (mul_b (point_b factor) a) + 4 * ulp (reach a)) (reach a) && leb (reach a) limit

-- x is p - n, at most a in size, and its halves are near it and near 0
record Halves (x : Float) (a e : ℕ) : Type 0 where
  p : ℕ
  n : ℕ
  size : p + n ≤ a
  whole : Off x p n 0
  hi : Off (split_of x).hi p n (2 * e)
  lo : Off (split_of x).lo 0 0 (3 * e)

halves : {x : Float} {a : Interval} → In x a → T (split_ok a) → Halves x (most a) (ulp (reach a))
unfolding split_of
halves {x = x} {a = a} h t =
    let c = mul_b (point_b factor) a in
    let k = reach a in
    let t3 = and_l (a.ok && c.ok && leb (most a + most c + 4 * ulp k) k) _ t in
    let t2 = and_l (a.ok && c.ok) _ t3 in
    let l = leb→le k limit (and_r (a.ok && c.ok && leb (most a + most c + 4 * ulp k) k) _ t) in
    let f = leb→le _ k (and_r (a.ok && c.ok) _ t3) in
    let v = h.at (and_l a.ok _ t2) in
    let w = (mul_in (point_in factor) h).at (and_r a.ok _ t2) in
    go k (ulp k) l (P v.s v.m) (N v.s v.m) (P w.s w.m) (N w.s w.m) (le_size v.s (le_most v))
    (le_size w.s (le_most w)) f refl (exactly v) (exactly w)
  where
    le_size : (s : Bool) {m k : ℕ} → m ≤ k → P s m + N s m ≤ k
    le_size false h = omega arith
    le_size true h = omega arith

    go : (k u : ℕ) → k ≤ limit → (p n q r : ℕ) {i j : ℕ} → p + n ≤ i → q + r ≤ j → i + j + 4 * u ≤ k → u ≡ ulp k
        → Off x p n 0 → Off (mul binary64 factor x) q r 0 → Halves x i u
    go k u l p n q r A T f e X Y =
        let t2 = sub_off k l (p + r) (n + q) u X Y (omega arith) in
        let hi = add_off k l p n (2 * u) Y t2 (omega arith) in
        let lo = sub_off k l 0 0 (3 * u) X hi (omega arith) in
        record { p = p; n = n; size = A; whole = X; hi = hi; lo = lo }

-- ---- a product of two numbers, and of two others nearby

-- |p - n| ≤ a and |q - r| ≤ b: |(p - n) * (q - r)| ≤ a * b
bilinear : (p n q r a b : ℕ) → p ≤ n + a → n ≤ p + a → q ≤ r + b → r ≤ q + b → p * q + n * r ≤ p * r + n * q + a * b
bilinear p n q r a b h1 h2 h3 h4 = go (leb n p) (leb→le n p) (nleb→lt n p) (leb r q) (leb→le r q) (nleb→lt r q)
  where
    same : (n u r v : ℕ) → u ≤ a → v ≤ b → (n + u) * (r + v) + n * r ≤ (n + u) * r + n * (r + v) + a * b
    same n u r v i j = let m = mul-le-mul i j in omega arith

    apart : (n u q v : ℕ) → (n + u) * q + n * (q + v) ≤ (n + u) * (q + v) + n * q + a * b
    apart n u q v = omega arith

    split : (p n : ℕ) → n ≤ p → (u : ℕ) × (p ≡ n + u)
    split p n h = (p - n, omega arith)

    go : (x : Bool) → (T x → n ≤ p) → (T (not x) → p < n) → (y : Bool) → (T y → r ≤ q) → (T (not y) → q < r)
        → p * q + n * r ≤ p * r + n * q + a * b
    go true f g true f' g' =
        let u = split p n (f tt) in
        let v = split q r (f' tt) in
        rw (u.1, v.1) (same n u.0 r v.0 (omega (arith, u.1)) (omega (arith, v.1)))
    go true f g false f' g' =
        let u = split p n (f tt) in
        let v = split r q (le_of_lt (g' tt)) in
        rw (u.1, v.1) (apart n u.0 q v.0)
    go false f g true f' g' =
        let u = split n p (le_of_lt (g tt)) in
        let v = split q r (f' tt) in
        rw (u.1, v.1) (let o = apart p u.0 r v.0 in omega arith)
    go false f g false f' g' =
        let u = split n p (le_of_lt (g tt)) in
        let v = split r q (le_of_lt (g' tt)) in
        rw (u.1, v.1) (let o = same p u.0 q v.0 (omega (arith, u.1)) (omega (arith, v.1)) in omega arith)

-- x' is within d of x, y' within e of y, |x'| ≤ a, |y| ≤ b: the products are within a * e + d * b
nearby : (p n q r p' n' q' r' a b d e : ℕ) → p' + n ≤ n' + p + d → n' + p ≤ p' + n + d → q' + r ≤ r' + q + e → r' + q ≤ q' + r + e
    → p' ≤ n' + a → n' ≤ p' + a → q ≤ r + b → r ≤ q + b
    → (p' * q' + n' * r' + (p * r + n * q) ≤ p' * r' + n' * q' + (p * q + n * r) + (a * e + d * b))
    × (p' * r' + n' * q' + (p * q + n * r) ≤ p' * q' + n' * r' + (p * r + n * q) + (a * e + d * b))
nearby p n q r p' n' q' r' a b d e h1 h2 h3 h4 h5 h6 h7 h8 =
    let f = bilinear p' n' (q' + r) (r' + q) a e h5 h6 h3 h4 in
    let g = bilinear (p' + n) (n' + p) q r d b h1 h2 h7 h8 in
    let f' = bilinear p' n' (r' + q) (q' + r) a e h5 h6 h4 h3 in
    let g' = bilinear (n' + p) (p' + n) q r d b h2 h1 h7 h8 in
    (omega (arith, f, g), omega (arith, f', g'))

-- z times l units is p - n, up to e
pub record Scaled (z : Float) (p n e : ℕ) : Type 0 where
  pub s : Bool
  pub m : ℕ
  pub val : HasValue z s m (2 ^ 1074)
  pub over : P s m * 2 ^ 1074 + n ≤ N s m * 2 ^ 1074 + p + e
  pub under : N s m * 2 ^ 1074 + p ≤ P s m * 2 ^ 1074 + n + e

-- how far a rounded product of at most k units is from w / l
near_quotient : (r w l k u : ℕ) → k ≤ 2 ^ 53 * u → w ≤ k * l → 2 ^ 53 * (r * l) ≤ 2 ^ 53 * w + w + 2 ^ 52 * l
    → 2 ^ 53 * w ≤ 2 ^ 53 * (r * l) + w + 2 ^ 52 * l
    → (r * l ≤ w + (l + u * l)) × (w ≤ r * l + (l + u * l))
near_quotient r w l k u h t o n = let g = mul-le-mul_right l h in omega arith

ulp_up : (k : ℕ) → k ≤ 2 ^ 53 * ulp k
unfolding ulp
ulp_up k = omega arith

-- with signs: v = ±r * l is near ±w, which is near c - d
signed : (g : Bool) (r w l e c d f : ℕ) → r * l ≤ w + e → w ≤ r * l + e → P g w + d ≤ N g w + c + f → N g w + c ≤ P g w + d + f
    → (P g r * l + d ≤ N g r * l + c + (f + e)) × (N g r * l + c ≤ P g r * l + d + (f + e))
signed false r w l e c d f h i j k = omega arith
signed true r w l e c d f h i j k = omega arith

P_times : (s t : Bool) (m n : ℕ) → P (unlike s t) (m * n) ≡ P s m * P t n + N s m * N t n
P_times false false m n = omega arith
P_times false true m n = omega arith
P_times true false m n = omega arith
P_times true true m n = omega arith

N_times : (s t : Bool) (m n : ℕ) → N (unlike s t) (m * n) ≡ P s m * N t n + N s m * P t n
N_times false false m n = omega arith
N_times false true m n = omega arith
N_times true false m n = omega arith
N_times true true m n = omega arith

at_most_size : (p n e a : ℕ) (s : Bool) (m : ℕ) → p + n ≤ a → Holds (at p n e) s m → m ≤ a + e
at_most_size p n e a false m i h = omega (arith, h.high)
at_most_size p n e a true m i h = omega (arith, h.low)

module _ (x y : Float) (p n e q r f a b k : ℕ) (X : Off x p n e) (Y : Off y q r f) (A : p + n ≤ a) (B : q + r ≤ b)
    (top : (a + e) * (b + f) ≤ k * 2 ^ 1074) (K : k ≤ limit) where
  pub scaled_product : Scaled (mul binary64 x y) (p * q + n * r) (p * r + n * q) ((a + e) * f + e * b + (2 ^ 1074 + ulp k * 2 ^ 1074))
  scaled_product =
      let v = X.inside in
      let w = Y.inside in
      let i = at_most_size p n e a v.s v.m A v.holds in
      let j = at_most_size q r f b w.s w.m B w.holds in
      let t = le_trans (mul-le-mul i j) top in
      let z = mul_rounded x y v.s w.s v.m w.m v.val w.val (le_trans t (mul-le-mul_right (2 ^ 1074) K)) in
      let d = near_quotient z.m (v.m * w.m) (2 ^ 1074) k (ulp k) (ulp_up k) t z.over z.under in
      let c = close v.s w.s v.m w.m v.holds w.holds i in
      let s =
      signed (unlike v.s w.s) z.m (v.m * w.m) (2 ^ 1074) (2 ^ 1074 + ulp k * 2 ^ 1074) (p * q + n * r) (p * r + n * q) ((a + e) * f + e * b)
      d.0 d.1 c.0 c.1 in
      record { s = unlike v.s w.s; m = z.m; val = z.val; over = s.0; under = s.1 }
    where
      sized : (s : Bool) (m k : ℕ) → m ≤ k → (P s m ≤ N s m + k) × (N s m ≤ P s m + k)
      sized false m k h = omega arith
      sized true m k h = omega arith

      close : (s t : Bool) (m m' : ℕ) → Holds (at p n e) s m → Holds (at q r f) t m' → m ≤ a + e
          → (P (unlike s t) (m * m') + (p * r + n * q) ≤ N (unlike s t) (m * m') + (p * q + n * r) + ((a + e) * f + e * b))
          × (N (unlike s t) (m * m') + (p * q + n * r) ≤ P (unlike s t) (m * m') + (p * r + n * q) + ((a + e) * f + e * b))
      close s t m m' H G i =
          let z = sized s m (a + e) i in
          rw (P_times s t m m', N_times s t m m')
          (nearby p n q r (P s m) (N s m) (P t m') (N t m') (a + e) b e f
          (omega (arith, H.high)) (omega (arith, H.low)) (omega (arith, G.high)) (omega (arith, G.low))
          z.0 z.1 (omega arith) (omega arith))

-- the difference of two products that are near the same number
pub cancel : (i j z l : ℕ) → 0 < l → i * l ≤ j * l + z → i ≤ j + z / l
cancel i j z l L h =
    let d = div-add-mod' z l in
    let m = mod-lt z L in
    let k : i < j + z / l + 1 = lt_of_not-le (λ (g : j + z / l + 1 ≤ i). no (mul-le-mul_right l g) d m) in
    omega arith
  where
    no : (j + z / l + 1) * l ≤ i * l → z / l * l + z % l ≡ z → z % l < l → ⊥
    no g d m = omega arith

module _ {z w : Float} {p n e f : ℕ} (g : ℕ) (Z : Scaled z p n e) (W : Scaled w p n f) (h : (e + f) / 2 ^ 1074 ≤ g) (l : g ≤ limit) where
  abbrev zp : ℕ
  zp = P Z.s Z.m

  abbrev zn : ℕ
  zn = N Z.s Z.m

  abbrev wp : ℕ
  wp = P W.s W.m

  abbrev wn : ℕ
  wn = N W.s W.m

  products_apart : Off (sub binary64 z w) 0 0 (g + ulp g)
  products_apart =
      let i = cancel (zp + wn) (zn + wp) (e + f) (2 ^ 1074) (pow_pos 1074) (add_up (2 ^ 1074) zp zn wp wn Z.over W.under) in
      let j = cancel (zn + wp) (zp + wn) (e + f) (2 ^ 1074) (pow_pos 1074) (add_down (2 ^ 1074) zp zn wp wn Z.under W.over) in
      let X : Off z zp zn 0 = off_value Z.s Z.m Z.val (omega arith) (omega arith) in
      let Y : Off w zp zn g = off_value W.s W.m W.val (turn zn wp zp wn j h) (turn zp wn zn wp i h) in
      sub_off g l 0 0 (g + ulp g) X Y (omega arith)
    where
      add_up : (l a b c d : ℕ) → a * l + n ≤ b * l + p + e → d * l + p ≤ c * l + n + f → (a + d) * l ≤ (b + c) * l + (e + f)
      add_up l a b c d i j = omega arith

      add_down : (l a b c d : ℕ) → b * l + p ≤ a * l + n + e → c * l + n ≤ d * l + p + f → (b + c) * l ≤ (a + d) * l + (e + f)
      add_down l a b c d i j = omega arith

      turn : (i j k l : ℕ) {q : ℕ} → i + j ≤ k + l + q → q ≤ g → j + i ≤ l + k + g
      turn i j k l o h = omega arith

-- ---- the low part

abbrev wide : Interval → ℕ
wide a = most a + 2 * ulp (reach a)

abbrev top_of : Interval → Interval → ℕ
top_of a b = over (wide a * wide b) (2 ^ 1074)

-- how far the product of the high halves is from the product
abbrev gap_of : Interval → Interval → ℕ
gap_of a b = (wide a * (2 * ulp (reach b)) + 2 * ulp (reach a) * most b + 2 * (2 ^ 1074 + ulp (top_of a b) * 2 ^ 1074)) / 2 ^ 1074

abbrev tight_ok : Interval → Interval → Bool
tight_ok a b = split_ok a && split_ok b && leb (top_of a b) limit && leb (gap_of a b) limit

unfoldable pub tight_lo : Interval → Interval → Interval
unfolding ulp add_b mul_b point_b of_bits
tight_lo a b =
    let o = tight_ok a b in
    let i = about o (3 * ulp (reach a)) in
    let j = about o (3 * ulp (reach b)) in
    let g = gap_of a b in
    add_b (mul_b i j) (add_b (mul_b i (about o (wide b))) (add_b (mul_b (about o (wide a)) j) (about o (g + ulp g))))

pub small : {x : Float} {e : ℕ} (o : Bool) → Off x 0 0 e → Inside x (about o e)
small {e = e} o X = to (about o e) X.inside (omega arith) (omega arith)

sized : {x : Float} {p n e a : ℕ} (o : Bool) → p + n ≤ a → Off x p n e → Inside x (about o (a + e))
sized {e = e} {a = a} o h X = to (about o (a + e)) X.inside (omega arith) (omega arith)

module _ {x y : Float} {a b e f : ℕ} (X : Halves x a e) (Y : Halves y b f) (k : ℕ) (top : (a + 2 * e) * (b + 2 * f) ≤ k * 2 ^ 1074)
    (K : k ≤ limit) where
  first_low : (g : ℕ) → ((a + 2 * e) * (2 * f) + 2 * e * b + 2 * (2 ^ 1074 + ulp k * 2 ^ 1074)) / 2 ^ 1074 ≤ g → g ≤ limit
      → Off (sub binary64 (mul binary64 (split_of x).hi (split_of y).hi) (mul binary64 x y)) 0 0 (g + ulp g)
  first_low g h l =
      products_apart g
      (scaled_product (split_of x).hi (split_of y).hi X.p X.n (2 * e) Y.p Y.n (2 * f) a b k X.hi Y.hi X.size Y.size top K)
      (scaled_product x y X.p X.n 0 Y.p Y.n 0 a b k X.whole Y.whole X.size Y.size
      (le_trans (mul-le-mul (omega arith) (omega arith)) top) K)
      (rw (sum_errors (2 ^ 1074 + ulp k * 2 ^ 1074)) h) l
    where
      sum_errors : (u : ℕ) → (a + 2 * e) * (2 * f) + 2 * e * b + u + ((a + 0) * 0 + 0 * b + u) ≡ (a + 2 * e) * (2 * f) + 2 * e * b + 2 * u
      sum_errors u = omega arith

pub tight_in : {x y : Float} {a b : Interval} → In x a → In y b → In (from_exact_mult x y).lo (tight_lo a b)
unfolding from_exact_mult tight_lo
tight_in {x = x} {y = y} {a = a} {b = b} h k = add_in (mul_in sl tl) (add_in (mul_in sl th) (add_in (mul_in sh tl) t1))
  where
    o : Bool
    o = tight_ok a b

    o3 : T o → T (split_ok a && split_ok b && leb (top_of a b) limit)
    o3 t = and_l (split_ok a && split_ok b && leb (top_of a b) limit) _ t

    o2 : T o → T (split_ok a && split_ok b)
    o2 t = and_l (split_ok a && split_ok b) _ (o3 t)

    X : T o → Halves x (most a) (ulp (reach a))
    X t = halves h (and_l (split_ok a) _ (o2 t))

    Y : T o → Halves y (most b) (ulp (reach b))
    Y t = halves k (and_r (split_ok a) _ (o2 t))

    sl : In (split_of x).lo (about o (3 * ulp (reach a)))
    sl = record { at = λ t. small o (X t).lo }

    tl : In (split_of y).lo (about o (3 * ulp (reach b)))
    tl = record { at = λ t. small o (Y t).lo }

    sh : In (split_of x).hi (about o (wide a))
    sh = record { at = λ t. sized o (X t).size (X t).hi }

    th : In (split_of y).hi (about o (wide b))
    th = record { at = λ t. sized o (Y t).size (Y t).hi }

    low : T o → Off (sub binary64 (mul binary64 (split_of x).hi (split_of y).hi) (mul binary64 x y)) 0 0 (gap_of a b + ulp (gap_of a b))
    low t =
        first_low (X t) (Y t) (top_of a b) (over_mul (wide a * wide b) (2 ^ 1074) (pow_pos 1074)) (leb→le _ _ (and_r (split_ok a && split_ok b) _ (o3 t)))
        (gap_of a b) (le_refl (gap_of a b)) (leb→le _ _ (and_r (split_ok a && split_ok b && leb (top_of a b) limit) _ t))

    t1 : In (sub binary64 (mul binary64 (split_of x).hi (split_of y).hi) (mul binary64 x y)) (about o (gap_of a b + ulp (gap_of a b)))
    t1 = record { at = λ t. small o (low t) }
