-- The square root of a pair by `fast_sqrt`. The square of the rounded root is near the number: the root is a whole number of units but for what rounding
-- moves it, and so is its square but for what the product's rounding moves that. So the correction is small against the root. Assumes nothing.
use mathlib.Core.Path.{◌≡◌, refl, sym, ap, subst}
use mathlib.Core.Bool.{Bool, true, false, true≢false, ◌&&◌}
use Prim.Native.Nat.{ℕ, zero, suc, ◌+◌, ◌-◌, ◌*◌, ◌/◌, ◌^◌, ◌≤◌, ◌<◌}
use native.Mathlib.Nat.{le_refl, mul-le-mul_right}
use native.Mathlib.Omega.{arith}
use lib.Dec.{T, leb, ltb, leb→le, ltb→lt}
use lib.Pow.{pow_pos}
use lib.Ieee.{Float, nan, inf, fin, binary64, up, down, add, sub, mul}
use lib.Ieee.Exact.{HasValue}
use lib.Ieee.Fits.{down_pos, and_l, and_r}
use Rattle.sqrt.specs.Sqrt.{isqrt, round_sqrt, sqrt_in, sqrt_of}
use Rattle.sqrt.proofs.Squares.{isqrt_is}
use Rattle.sqrt.proofs.Scaling.{radicand_of}
use Rattle.pxfm.specs.declared.double_double.DoubleDouble.{DoubleDouble}
use Rattle.pxfm.specs.DoubleDouble.{two, fast_sqrt}
use Rattle.law_bounds.specs.Interval.{Interval, P, N, Holds, Inside, In, about}
use Rattle.law_bounds.proofs.Arithmetic.{limit, ulp, over, most}
use Rattle.law_bounds.proofs.Rounding.{near_fraction}
use Rattle.law_bounds.proofs.Operations.{le_most, over_mul, to}
use Rattle.law_bounds.proofs.Sums.{at, Off, add_off, sub_off, off_value, sum_lo, root_lo_in}
use Rattle.law_bounds.proofs.Products.{scaled_product, cancel, small}
use Rattle.law_bounds.proofs.Estimate.{Est, EstP, pair_e, point, sum_e, less_e, times_e, over_e, exact_mult_e}
use Rattle.law_bounds.proofs.Root.{isqrt_mono, rounded_root, none, root_e}

-- ---- the rounded root, and its square

root_of : (x : Float) (n : ℕ) → HasValue x false n (2 ^ 1074) → 0 < n → sqrt_of x ≡ round_sqrt binary64 (n * 2 ^ 1074)
unfolding sqrt_in
root_of nan n v p = absurd v
root_of (inf s) n v p = absurd v
root_of (fin s zero e) n v p = absurd (no n p (none 0 (up e) (down e) n (2 ^ 1074) (down_pos e) v.1 refl))
  where
    no : (n : ℕ) → 0 < n → n ≡ 0 → ⊥
    no n p z = omega arith
root_of (fin true (suc k) e) n v p = absurd (true≢false v.0)
root_of (fin false (suc k) e) n v p = ap (round_sqrt binary64) (radicand_of binary64 (fin false (suc k) e) n v)

-- how far the rounded root is from the whole root of at most r
abbrev root_off : ℕ → ℕ
root_off r = ulp (2 * r + 1) + 2

root_off_lem : (x : Float) (n r : ℕ) → HasValue x false n (2 ^ 1074) → 0 < n → isqrt (n * 2 ^ 1074) ≤ r → r + 1 ≤ limit
    → Off (sqrt_of x) (isqrt (n * 2 ^ 1074)) 0 (root_off r)
root_off_lem x n r v p h l =
    let z = rounded_root (n * 2 ^ 1074) r h l in
    rw (root_of x n v p) (go (isqrt (n * 2 ^ 1074)) z.c z.near.m z.small h z.near.val
    (near_fraction z.near (2 * r + 1) 2 (top (isqrt (n * 2 ^ 1074)) z.c h z.small) (le_refl 2)))
  where
    top : (s c : ℕ) → s ≤ r → c ≤ 1 → 2 * s + c ≤ 2 * r + 1
    top s c h i = omega arith

    go : {y : Float} (s c m : ℕ) → c ≤ 1 → s ≤ r → HasValue y false m (2 ^ 1074)
        → (m * 2 ≤ 2 * s + c + (ulp (2 * r + 1) + 2)) × (2 * s + c ≤ m * 2 + (ulp (2 * r + 1) + 2)) → Off y s 0 (root_off r)
    go s c m i h v k = off_value false m v (omega arith) (omega arith)

abbrev square_top : ℕ → ℕ
square_top r = over ((r + root_off r) * (r + root_off r)) (2 ^ 1074)

-- how far the rounded square is from the number
abbrev square_gap : ℕ → ℕ
square_gap r = ((r + root_off r) * root_off r + root_off r * r + (2 ^ 1074 + ulp (square_top r) * 2 ^ 1074) + 2 * r) / 2 ^ 1074

square_off : (x : Float) (n r : ℕ) → HasValue x false n (2 ^ 1074) → 0 < n → isqrt (n * 2 ^ 1074) ≤ r → r + 1 ≤ limit → square_top r ≤ limit
    → Off (mul binary64 (sqrt_of x) (sqrt_of x)) n 0 (square_gap r)
square_off x n r v p h l k =
    let s = isqrt (n * 2 ^ 1074) in
    let X = root_off_lem x n r v p h l in
    let e = root_off r in
    let i = isqrt_is (n * 2 ^ 1074) in
    let A = top s h in
    let z = scaled_product (sqrt_of x) (sqrt_of x) s 0 e s 0 e r r (square_top r) X X A A (over_mul ((r + e) * (r + e)) (2 ^ 1074) (pow_pos 1074)) k in
    let f = (r + e) * e + e * r + (2 ^ 1074 + ulp (square_top r) * 2 ^ 1074) in
    let a = P z.s z.m in
    let b = N z.s z.m in
    let c = scale a b s f (n * 2 ^ 1074) (2 ^ 1074) h i.low i.high refl z.over z.under in
    off_value z.s z.m z.val (plain a b n (square_gap r) (cancel a (b + n) (f + 2 * r) (2 ^ 1074) (pow_pos 1074) c.0))
    (with_none (b + n) a (square_gap r) (cancel (b + n) a (f + 2 * r) (2 ^ 1074) (pow_pos 1074) c.1))
  where
    top : (s : ℕ) → s ≤ r → s + 0 ≤ r
    top s h = omega arith

    plain : (a b c d : ℕ) → a ≤ b + c + d → a + 0 ≤ b + c + d
    plain a b c d h = omega arith

    with_none : (a b d : ℕ) → a ≤ b + d → a ≤ b + 0 + d
    with_none a b d h = omega arith

    scale : (a b s f t l : ℕ) → s ≤ r → s * s ≤ t → t < (s + 1) * (s + 1) → t ≡ n * l
        → a * l + (s * 0 + 0 * s) ≤ b * l + (s * s + 0 * 0) + f → b * l + (s * s + 0 * 0) ≤ a * l + (s * 0 + 0 * s) + f
        → (a * l ≤ (b + n) * l + (f + 2 * r)) × ((b + n) * l ≤ a * l + (f + 2 * r))
    scale a b s f t l h i j e o u = omega arith

-- ---- what the root of a sum leaves of the first addend

-- how far the sum of a number of at most a and one of at most b is from the first
abbrev sum_off : ℕ → ℕ → ℕ
sum_off a b = b + ulp (a + b)

abbrev root_most : ℕ → ℕ → ℕ
root_most a b = isqrt ((a + sum_off a b) * 2 ^ 1074)

abbrev gap_of : ℕ → ℕ → ℕ → ℕ
gap_of a b r = square_gap r + sum_off a b

-- a double above zero
record Above (x : Float) (c a : ℕ) : Type 0 where
  n : ℕ
  val : HasValue x false n (2 ^ 1074)
  low : c < n
  high : n ≤ a

above : {x : Float} {b : Interval} (c : ℕ) → c < b.lp - b.ln → Inside x b → Above x c (most b)
above {x = x} {b = b} c p v = go v.s v.m v.val v.holds (le_most v)
  where
    go : (s : Bool) (m : ℕ) → HasValue x s m (2 ^ 1074) → Holds b s m → m ≤ most b → Above x c (most b)
    go true m v h i = absurd (no h.low)
      where
        no : b.lp + m ≤ 0 + b.ln → ⊥
        no q = omega arith
    go false m v h i = record { n = m; val = v; low = plain h.low; high = i }
      where
        plain : b.lp + 0 ≤ m + b.ln → c < m
        plain q = omega arith

record RootFits (a b r : ℕ) : Type 0 where
  sum : a + b ≤ limit
  root : r + 1 ≤ limit
  product : square_top r ≤ limit
  gap : gap_of a b r ≤ limit

module _ {h l : Float} {a b : ℕ} (r : ℕ) (e : r ≡ root_most a b) (H : Above h (sum_off a b) a) (Y : Off l 0 0 b) (F : RootFits a b r) where
  abbrev n : ℕ
  n = H.n

  abbrev x : Float
  x = sqrt_of (add binary64 h l)

  first : Off h n 0 0
  first = off_value false n H.val (omega arith) (omega arith)

  sum_off_lem : Off (add binary64 h l) n 0 (sum_off a b)
  sum_off_lem = add_off (a + b) F.sum n 0 (sum_off a b) first Y (omega (arith, H.high))

  square_first : Off (mul binary64 x x) n 0 (gap_of a b r)
  square_first = let v = sum_off_lem.inside in go v.s v.m v.val v.holds
    where
      go : (s : Bool) (m : ℕ) → HasValue (add binary64 h l) s m (2 ^ 1074) → Holds (at n 0 (sum_off a b)) s m → Off (mul binary64 x x) n 0 (gap_of a b r)
      go true m v q = absurd (no m q.low H.low)
        where
          no : (m : ℕ) → n + m ≤ 0 + (0 + sum_off a b) → sum_off a b < n → ⊥
          no m i j = omega arith
      go false m v q =
          let i : m ≤ a + sum_off a b = omega (arith, q.high, H.high) in
          let j = subst (λ (z : ℕ). isqrt (m * 2 ^ 1074) ≤ z) (sym e) (isqrt_mono _ _ (mul-le-mul_right (2 ^ 1074) i)) in
          let z = square_off (add binary64 h l) m r v (omega (arith, q.low, H.low)) j F.root F.product in
          wider m (square_gap r) q.low q.high z
        where
          wider : {y : Float} (m g : ℕ) → n + 0 ≤ m + (0 + sum_off a b) → m + 0 ≤ n + sum_off a b + 0 → Off y m 0 g → Off y n 0 (g + sum_off a b)
          wider m g i j z = record { inside = to (at n 0 (g + sum_off a b)) z.inside (omega arith) (omega arith) }

  root_small : Off (sub binary64 h (mul binary64 x x)) 0 0 (gap_of a b r + ulp (gap_of a b r))
  root_small = last (gap_of a b r) F.gap square_first
    where
      last : {y : Float} (g : ℕ) → g ≤ limit → Off y n 0 g → Off (sub binary64 h y) 0 0 (g + ulp g)
      last g l z = sub_off g l 0 0 (g + ulp g) first z (omega arith)

abbrev root_ok : Interval → Interval → ℕ → Bool
root_ok p q r =
    let a = most p in
    let b = most q in
    p.ok && q.ok
    && (ltb (sum_off a b) (p.lp - p.ln)
    && (leb (a + b) limit && (leb (r + 1) limit && (leb (square_top r) limit && leb (gap_of a b r) limit))))

abbrev root_left_by : Interval → Interval → ℕ → Interval
root_left_by p q r = about (root_ok p q r) (gap_of (most p) (most q) r + ulp (gap_of (most p) (most q) r))

unfoldable pub root_left : Interval → Interval → Interval
unfolding ulp isqrt
root_left p q = root_left_by p q (root_most (most p) (most q))

left_by : {h l : Float} {p q : Interval} (r : ℕ) → r ≡ root_most (most p) (most q) → In h p → In l q
    → In (sub binary64 h (mul binary64 (sqrt_of (add binary64 h l)) (sqrt_of (add binary64 h l)))) (root_left_by p q r)
left_by {h = h} {l = l} {p = p} {q = q} r e i j =
    record {
      at = λ t.
          let o = and_l (p.ok && q.ok) _ t in
          let c = and_r (p.ok && q.ok) _ t in
          let v = i.at (and_l p.ok _ o) in
          let w = j.at (and_r p.ok _ o) in
          let k = above (sum_off a b) (ltb→lt _ _ (and_l (ltb (sum_off a b) (p.lp - p.ln)) _ c)) v in
          small (root_ok p q r) (root_small r e k (near_zero_lem w) (fits (and_r (ltb (sum_off a b) (p.lp - p.ln)) _ c)));
    }
  where
    a : ℕ
    a = most p

    b : ℕ
    b = most q

    near_zero_lem : {x : Float} {d : Interval} → Inside x d → Off x 0 0 (most d)
    near_zero_lem v = go v.s v.m v.val (le_most v)
      where
        go : {x : Float} {k : ℕ} (s : Bool) (m : ℕ) → HasValue x s m (2 ^ 1074) → m ≤ k → Off x 0 0 k
        go false m v h = off_value false m v (omega arith) (omega arith)
        go true m v h = off_value true m v (omega arith) (omega arith)

    fits : T (leb (a + b) limit && (leb (r + 1) limit && (leb (square_top r) limit && leb (gap_of a b r) limit))) → RootFits a b r
    fits t =
        let t1 = and_r (leb (a + b) limit) _ t in
        let t2 = and_r (leb (r + 1) limit) _ t1 in
        record {
          sum = leb→le _ _ (and_l (leb (a + b) limit) _ t);
          root = leb→le _ _ (and_l (leb (r + 1) limit) _ t1);
          product = leb→le _ _ (and_l (leb (square_top r) limit) _ t2);
          gap = leb→le _ _ (and_r (leb (square_top r) limit) _ t2);
        }

pub root_left_in : {h l : Float} {p q : Interval} → In h p → In l q
    → In (sub binary64 h (mul binary64 (sqrt_of (add binary64 h l)) (sqrt_of (add binary64 h l)))) (root_left p q)
unfolding root_left
root_left_in {p = p} {q = q} i j = left_by (root_most (most p) (most q)) refl i j

-- ---- the pair

unfoldable root_left_e : {h l : Float} → Est h → Est l
    → Est (sub binary64 h (mul binary64 (sqrt_of (add binary64 h l)) (sqrt_of (add binary64 h l))))
unfolding root_left
root_left_e p q = record { bound = root_left p.bound q.bound; holds = root_left_in p.holds q.holds }

unfoldable root_lo_e : {x y : Float} → Est x → Est y → Est (add binary64 (sub binary64 x (add binary64 x y)) y)
unfolding sum_lo
root_lo_e p q = record { bound = sum_lo p.bound q.bound; holds = root_lo_in p.holds q.holds }

unfoldable pub fast_sqrt_e : {x : DoubleDouble} → EstP x → EstP (fast_sqrt x)
unfolding fast_sqrt root_e sum_e less_e times_e over_e exact_mult_e point root_left_e root_lo_e
fast_sqrt_e p =
    let x = root_e (sum_e p.hi p.lo) in
    let m = exact_mult_e x x in
    let r = less_e (sum_e (root_left_e p.hi p.lo) p.lo) m.lo in
    let d = over_e r (times_e (point two) x) in
    pair_e (root_lo_e x d) (sum_e x d)
