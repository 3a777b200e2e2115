-- What a comparison of two doubles says of an interval: it is cut at the other double. Assumes nothing.
use mathlib.Core.Bool.{Bool, not, ◌&&◌}
use Prim.Native.Nat.{ℕ, ◌+◌, ◌^◌, ◌≤◌}
use native.Mathlib.Nat.{le_of_lt}
use native.Mathlib.Omega.{arith}
use lib.Dec.{T}
use lib.Ieee.{Float, lt, le}
use lib.Ieee.Exact.{HasValue}
use lib.Ieee.Fits.{and_l, and_r}
use Rattle.pxfm.proofs.Order.{val_of_lt, val_of_le, val_of_not_lt, val_of_not_le}
use Rattle.law_bounds.specs.Interval.{Interval, P, N, Holds, Inside, In}
use Rattle.law_bounds.proofs.Arithmetic.{point_b}
use Rattle.law_bounds.proofs.Operations.{val_of, point_in}
use Rattle.law_bounds.proofs.Estimate.{Est}

-- where both are finite, x is at most y
pub record Below (x y : Float) : Type 0 where
  pub le : (s t : Bool) (m n : ℕ) → HasValue x s m (2 ^ 1074) → HasValue y t n (2 ^ 1074) → P s m + N t n ≤ P t n + N s m

-- ---- from the tests

pub below_of_lt : {x y : Float} → T (lt x y) → Below x y
below_of_lt h = record { le = λ s t m n v w. le_of_lt (val_of_lt (val_of s m v) (val_of t n w) h) }

pub below_of_not_lt : {x y : Float} → T (not (lt y x)) → Below x y
below_of_not_lt h = record { le = λ s t m n v w. val_of_not_lt (val_of t n w) (val_of s m v) h }

pub below_of_not_le : {x y : Float} → T (not (le y x)) → Below x y
below_of_not_le h = record { le = λ s t m n v w. le_of_lt (val_of_not_le (val_of t n w) (val_of s m v) h) }

pub below_of_le : {x y : Float} → T (le x y) → Below x y
below_of_le h = record { le = λ s t m n v w. val_of_le (val_of s m v) (val_of t n w) h }

-- ---- the interval's part that is left

abbrev pub capped : Interval → Interval → Interval
capped a b = record { ok = a.ok && b.ok; lp = a.lp; ln = a.ln; hp = b.hp; hn = b.hn }

abbrev pub floored : Interval → Interval → Interval
floored a b = record { ok = a.ok && b.ok; lp = b.lp; ln = b.ln; hp = a.hp; hn = a.hn }

cap_holds : (a b : Interval) (s t : Bool) (m n : ℕ) → Holds a s m → Holds b t n → P s m + N t n ≤ P t n + N s m → Holds (capped a b) s m
cap_holds a b s t m n h g i = record { low = omega (arith, h.low); high = omega (arith, g.high) }

floor_holds : (a b : Interval) (s t : Bool) (m n : ℕ) → Holds a s m → Holds b t n → P t n + N s m ≤ P s m + N t n → Holds (floored a b) s m
floor_holds a b s t m n h g i = record { low = omega (arith, g.low); high = omega (arith, h.high) }

pub cap_in : {x y : Float} {a b : Interval} → In x a → In y b → Below x y → In x (capped a b)
cap_in {x = x} {y = y} {a = a} {b = b} p q h = record { at = λ t. go (p.at (and_l a.ok _ t)) (q.at (and_r a.ok _ t)) }
  where
    go : Inside x a → Inside y b → Inside x (capped a b)
    go v w =
        record {
          s = v.s;
          m = v.m;
          val = v.val;
          holds = cap_holds a b v.s w.s v.m w.m v.holds w.holds (h.le v.s w.s v.m w.m v.val w.val);
        }

pub floor_in : {x y : Float} {a b : Interval} → In x a → In y b → Below y x → In x (floored a b)
floor_in {x = x} {y = y} {a = a} {b = b} p q h = record { at = λ t. go (p.at (and_l a.ok _ t)) (q.at (and_r a.ok _ t)) }
  where
    go : Inside x a → Inside y b → Inside x (floored a b)
    go v w =
        record {
          s = v.s;
          m = v.m;
          val = v.val;
          holds = floor_holds a b v.s w.s v.m w.m v.holds w.holds (h.le w.s v.s w.m v.m w.val v.val);
        }

-- x, known to be at most c
unfoldable pub cap_e : {x : Float} (c : Float) → Below x c → Est x → Est x
unfolding point_b
cap_e c h p = record { bound = capped p.bound (point_b c); holds = cap_in p.holds (point_in c) h }

-- x, known to be at least c
unfoldable pub floor_e : {x : Float} (c : Float) → Below c x → Est x → Est x
unfolding point_b
floor_e c h p = record { bound = floored p.bound (point_b c); holds = floor_in p.holds (point_in c) h }
