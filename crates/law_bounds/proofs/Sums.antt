-- The low parts of the sums of doubles are small: what is left of a sum of at most k units is at most nine times what rounding moves it.
-- Assumes nothing.
use mathlib.Core.Path.{◌≡◌}
use mathlib.Core.Bool.{Bool, true, false, ◌&&◌}
use Prim.Native.Nat.{ℕ, ◌+◌, ◌*◌, ◌^◌, ◌≤◌}
use native.Mathlib.Nat.{le_trans}
use native.Mathlib.Omega.{arith}
use lib.Dec.{T, leb, leb→le}
use lib.Ieee.{Float, binary64, add, sub, neg}
use lib.Ieee.Exact.{HasValue}
use lib.Ieee.Fits.{and_l, and_r}
use Rattle.pxfm.specs.DoubleDouble.{from_exact_add, from_full_exact_add}
use Rattle.law_bounds.specs.Interval.{Interval, P, N, Holds, Inside, In, about}
use Rattle.law_bounds.proofs.Arithmetic.{limit, ulp, most, sum_b, neg_b}
use Rattle.law_bounds.proofs.Rounding.{near_whole}
use Rattle.law_bounds.proofs.Operations.{le_most, sum_of, sum_holds, neg_inside, to}

-- ---- a sum, and the exact sum

-- p - n, up to e
abbrev pub at : ℕ → ℕ → ℕ → Interval
at p n e = record { ok = true; lp = p; ln = n + e; hp = p + e; hn = n }

pub record Off (x : Float) (p n e : ℕ) : Type 0 where
  pub inside : Inside x (at p n e)

abbrev apart : ℕ → Interval → Interval
apart e b = record { ok = b.ok; lp = b.lp; ln = b.ln + e; hp = b.hp + e; hn = b.hn }

apart_holds : (b : Interval) (u : Bool) (k r e : ℕ) → Holds b u k → r ≤ k + e → k ≤ r + e → Holds (apart e b) u r
apart_holds b false k r e h i j = record { low = omega (arith, h.low); high = omega (arith, h.high) }
apart_holds b true k r e h i j = record { low = omega (arith, h.low); high = omega (arith, h.high) }

top : (b : Interval) (u : Bool) (k c : ℕ) → Holds b u k → b.ln ≤ b.lp + c → b.hp ≤ b.hn + c → k ≤ c
top b false k c h i j = omega (arith, h.high)
top b true k c h i j = omega (arith, h.low)

module _ {x y : Float} {a b : Interval} (k : ℕ) (l : k ≤ limit) where
  add_near : Inside x a → Inside y b → a.ln + b.ln ≤ a.lp + b.lp + k → a.hp + b.hp ≤ a.hn + b.hn + k
      → Inside (add binary64 x y) (apart (ulp k) (sum_b a b))
  add_near v w i j =
      let z = sum_of x y v.s w.s v.m w.m v.val w.val in
      let h = sum_holds a b v.s w.s z.u v.m w.m z.k v.holds w.holds z.gap in
      let t = top (sum_b a b) z.u z.k k h i j in
      let r = z.near (le_trans t l) in
      let n = near_whole r k t in
      record { s = z.u; m = r.m; val = r.val; holds = apart_holds (sum_b a b) z.u z.k r.m (ulp k) h n.0 n.1 }

-- the sum of p - n up to e and q - r up to f is s - t up to g, where no number passes k
module _ (k : ℕ) (l : k ≤ limit) {x y : Float} {p n e q r f : ℕ} (s t g : ℕ) (X : Off x p n e) (Y : Off y q r f) where
  pub add_off : (p + q + t ≡ s + (n + r)) × (e + f + ulp k ≤ g) × (s + e + f ≤ t + k) × (t + e + f ≤ s + k) → Off (add binary64 x y) s t g
  add_off h =
      let z = add_near k l X.inside Y.inside (omega arith) (omega arith) in
      record { inside = to (at s t g) z (omega arith) (omega arith) }

  pub sub_off : (p + r + t ≡ s + (n + q)) × (e + f + ulp k ≤ g) × (s + e + f ≤ t + k) × (t + e + f ≤ s + k) → Off (sub binary64 x y) s t g
  unfolding sub neg_b
  sub_off h =
      let z = add_near {y = neg y} {b = neg_b (at q r f)} k l X.inside (neg_inside Y.inside) (omega arith) (omega arith) in
      record { inside = to (at s t g) z (omega arith) (omega arith) }

-- ---- the low parts

-- x and y as exact numbers of units, at most k together
record Addends (x y : Float) (k : ℕ) : Type 0 where
  p : ℕ
  n : ℕ
  q : ℕ
  r : ℕ
  first : Off x p n 0
  second : Off y q r 0
  size : p + n + (q + r) + 9 * ulp k ≤ k
  fits : k ≤ limit

-- ±m, as p - n up to e
pub off_value : {x : Float} (s : Bool) (m : ℕ) {p n e : ℕ} → HasValue x s m (2 ^ 1074) → P s m + n ≤ N s m + p + e
    → N s m + p ≤ P s m + n + e → Off x p n e
off_value s m v i j = record { inside = record { s = s; m = m; val = v; holds = record { low = omega arith; high = omega arith } } }

pub exactly : {x : Float} {b : Interval} (v : Inside x b) → Off x (P v.s v.m) (N v.s v.m) 0
exactly v = off_value v.s v.m v.val (omega arith) (omega arith)

pub size_is : (s : Bool) (m : ℕ) → P s m + N s m ≡ m
size_is false m = omega arith
size_is true m = omega arith

module _ {x y : Float} {k : ℕ} (A : Addends x y k) where
  low_full : Off (from_full_exact_add x y).lo 0 0 (9 * ulp k)
  unfolding from_full_exact_add
  low_full =
      let z = A.size in
      let l = A.fits in
      let hi = add_off k l (A.p + A.q) (A.n + A.r) (ulp k) A.first A.second (omega arith) in
      let t1 = sub_off k l A.q A.r (2 * ulp k) hi A.first (omega arith) in
      let t2 = sub_off k l A.p A.n (4 * ulp k) hi t1 (omega arith) in
      let t3 = sub_off k l 0 0 (3 * ulp k) A.second t1 (omega arith) in
      let t4 = sub_off k l 0 0 (5 * ulp k) A.first t2 (omega arith) in
      add_off k l 0 0 (9 * ulp k) t3 t4 (omega arith)

  low_fast : Off (from_exact_add x y).lo 0 0 (9 * ulp k)
  unfolding from_exact_add
  low_fast =
      let z = A.size in
      let l = A.fits in
      let hi = add_off k l (A.p + A.q) (A.n + A.r) (ulp k) A.first A.second (omega arith) in
      let t = sub_off k l A.q A.r (2 * ulp k) hi A.first (omega arith) in
      sub_off k l 0 0 (9 * ulp k) A.second t (omega arith)

  -- as `fast_sqrt` takes it
  low_root : Off (add binary64 (sub binary64 x (add binary64 x y)) y) 0 0 (9 * ulp k)
  low_root =
      let z = A.size in
      let l = A.fits in
      let hi = add_off k l (A.p + A.q) (A.n + A.r) (ulp k) A.first A.second (omega arith) in
      let t = sub_off k l A.r A.q (2 * ulp k) A.first hi (omega arith) in
      add_off k l 0 0 (9 * ulp k) t A.second (omega arith)

-- twice the addends' sizes, and some
abbrev reach : Interval → Interval → ℕ
reach a b = 2 * (most a + most b) + 64

abbrev sum_ok : Interval → Interval → Bool
sum_ok a b = a.ok && b.ok && leb (most a + most b + 9 * ulp (reach a b)) (reach a b) && leb (reach a b) limit

unfoldable pub sum_lo : Interval → Interval → Interval
unfolding ulp
sum_lo a b = about (sum_ok a b) (9 * ulp (reach a b))

addends : {x y : Float} {a b : Interval} → In x a → In y b → T (sum_ok a b) → Addends x y (reach a b)
addends {a = a} {b = b} h g t =
    let k = reach a b in
    let t3 = and_l (a.ok && b.ok && leb (most a + most b + 9 * ulp k) k) _ t in
    let t2 = and_l (a.ok && b.ok) _ t3 in
    let v = h.at (and_l a.ok _ t2) in
    let w = g.at (and_r a.ok _ t2) in
    record {
      p = P v.s v.m;
      n = N v.s v.m;
      q = P w.s w.m;
      r = N w.s w.m;
      first = exactly v;
      second = exactly w;
      size = sizes v.s w.s (ulp k) (le_most v) (le_most w) (leb→le _ k (and_r (a.ok && b.ok) _ t3));
      fits = leb→le k limit (and_r (a.ok && b.ok && leb (most a + most b + 9 * ulp k) k) _ t);
    }
  where
    sizes : (s t : Bool) {m n i j k : ℕ} (u : ℕ) → m ≤ i → n ≤ j → i + j + 9 * u ≤ k → P s m + N s m + (P t n + N t n) + 9 * u ≤ k
    sizes s t {m} {n} u p q h = omega (arith, size_is s m, size_is t n)

pub full_lo_in : {x y : Float} {a b : Interval} → In x a → In y b → In (from_full_exact_add x y).lo (sum_lo a b)
unfolding sum_lo
full_lo_in {a = a} {b = b} h g = record { at = λ t. to (sum_lo a b) (low_full (addends h g t)).inside (omega arith) (omega arith) }

pub fast_lo_in : {x y : Float} {a b : Interval} → In x a → In y b → In (from_exact_add x y).lo (sum_lo a b)
unfolding sum_lo
fast_lo_in {a = a} {b = b} h g = record { at = λ t. to (sum_lo a b) (low_fast (addends h g t)).inside (omega arith) (omega arith) }

pub root_lo_in : {x y : Float} {a b : Interval} → In x a → In y b → In (add binary64 (sub binary64 x (add binary64 x y)) y) (sum_lo a b)
unfolding sum_lo
root_lo_in {a = a} {b = b} h g = record { at = λ t. to (sum_lo a b) (low_root (addends h g t)).inside (omega arith) (omega arith) }
