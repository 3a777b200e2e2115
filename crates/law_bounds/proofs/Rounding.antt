-- How far `round` moves a fraction n / c, counted in units of the smallest double: by at most 2 ^ -53 of its size and half a unit.
-- So a bound h of the fraction becomes `raised h` for the double, and a bound l from below `lowered l`. Assumes nothing.
use mathlib.Core.Path.{◌≡◌, refl, sym}
use mathlib.Core.Bool.{Bool}
use Prim.Native.Nat.{ℕ, zero, suc, ◌+◌, ◌*◌, ◌/◌, ◌^◌, ◌≤◌, ◌<◌}
use native.Mathlib.Nat.{le_of_eq, le_trans, lt_of_not-le, mul-pos, mul-one, mul_comm, mul_assoc, mul-le-mul_right, le_of_mul-le-mul_right}
use native.Mathlib.Nat.{div-mul-le_self}
use native.Mathlib.Omega.{arith}
use lib.Pow.{pow-add, pow_pos}
use lib.Ieee.{Float, binary64, size, round}
use lib.Ieee.Digits.{size_reaches}
use lib.Ieee.Exact.{HasValue, units_val}
use lib.Ieee.Fits.{round_is}
use lib.Ieee.Nearest.{closest}
use lib.Ieee.Order.{drop, kept}
use Rattle.pxfm.proofs.Error.{closest_near}
use Rattle.law_bounds.proofs.Arithmetic.{raised, lowered, limit, ulp}

-- the unit of the last place, times 2 ^ 52, is at most the number itself, but where that is below 2 ^ 52
place_small : (n c : ℕ) → 2 ^ 52 * (c * 2 ^ drop 53 n c) ≤ n + 2 ^ 52 * c
place_small n c = go (drop 53 n c) refl
  where
    go : (k : ℕ) → drop 53 n c ≡ k → 2 ^ 52 * (c * 2 ^ k) ≤ n + 2 ^ 52 * c
    go zero e = omega (arith, mul-one c)
    go (suc k) e =
        let s : 52 + suc k < size (n / c) = omega arith in
        let a : 2 ^ (52 + suc k) ≤ n / c = size_reaches (n / c) (52 + suc k) s in
        let b = le_trans (mul-le-mul_right c (le_trans (le_of_eq (sym (pow-add 2 52 (suc k)))) a)) (div-mul-le_self n c) in
        let d : c * 2 ^ suc k ≡ 2 ^ suc k * c = mul_comm c (2 ^ suc k) in
        let f : 2 ^ 52 * 2 ^ suc k * c ≡ 2 ^ 52 * (2 ^ suc k * c) = mul_assoc (2 ^ 52) (2 ^ suc k) c in
        omega arith

-- what n / c is rounded to
abbrev grid : ℕ → ℕ → ℕ
grid n c = kept 53 n c * 2 ^ drop 53 n c

-- ---- a rounded fraction

-- x has the sign s, and is m units, near n / c of them
pub record Rounded (x : Float) (s : Bool) (n c : ℕ) : Type 0 where
  pub m : ℕ
  pub val : HasValue x s m (2 ^ 1074)
  pub over : 2 ^ 53 * (m * c) ≤ 2 ^ 53 * n + n + 2 ^ 52 * c
  pub under : 2 ^ 53 * n ≤ 2 ^ 53 * (m * c) + n + 2 ^ 52 * c

grid_near : (n c : ℕ) → 0 < c
    → (2 ^ 53 * (grid n c * c) ≤ 2 ^ 53 * n + n + 2 ^ 52 * c) × (2 ^ 53 * n ≤ 2 ^ 53 * (grid n c * c) + n + 2 ^ 52 * c)
grid_near n c C =
    let k = drop 53 n c in
    let w = c * 2 ^ k in
    let h = closest_near n w (mul-pos C (pow_pos k)) in
    let u = place_small n c in
    let e : closest n w * 2 ^ k * c ≡ w * closest n w = omega arith in
    omega arith

-- a bound of m by one of m * c
room : (m n c l : ℕ) → 0 < c → 0 < l → n ≤ l * c → 2 ^ 53 * (m * c) ≤ 2 ^ 53 * n + n + 2 ^ 52 * c → m < 2 * l
room m n c l C L h o = lt_of_not-le (λ (g : 2 * l ≤ m). no (mul-le-mul_right c g) (mul-le-mul_right c L))
  where
    no : 2 * l * c ≤ m * c → 1 * c ≤ l * c → ⊥
    no g k = omega arith

-- The fraction num / c of ones is n / d units.
pub rounded : (s : Bool) (num c n d : ℕ) → 0 < c → 0 < d → num * 2 ^ 1074 * d ≡ n * c → n ≤ limit * d
    → Rounded (round binary64 s num c) s n d
rounded s num c n d C D e h =
    let k = num * 2 ^ 1074 in
    let g = grid_near k c C in
    let top = le_of_mul-le-mul_right {m = k} {n = limit * c} {k = d} (wide k c d n limit e h) D in
    let v : HasValue (round binary64 s num c) s (grid k c) (2 ^ 1074) =
    rw (round_is binary64 s num c)
    (units_val binary64 s (kept 53 k c) (drop 53 k c) (room (grid k c) k c limit C (pow_pos 2097) top g.0)) in
    record { m = grid k c; val = v; over = scale_over (grid k c) k c n d C e g.0; under = scale_under (grid k c) k c n d C e g.1 }
  where
    wide : (k c d n l : ℕ) → k * d ≡ n * c → n ≤ l * d → k * d ≤ l * c * d
    wide k c d n l e h = let i = mul-le-mul_right c h in omega arith

    scale_over : (m k c n d : ℕ) → 0 < c → k * d ≡ n * c → 2 ^ 53 * (m * c) ≤ 2 ^ 53 * k + k + 2 ^ 52 * c
        → 2 ^ 53 * (m * d) ≤ 2 ^ 53 * n + n + 2 ^ 52 * d
    scale_over m k c n d C e h = let i = mul-le-mul_right d h in le_of_mul-le-mul_right {k = c} (omega arith) C

    scale_under : (m k c n d : ℕ) → 0 < c → k * d ≡ n * c → 2 ^ 53 * k ≤ 2 ^ 53 * (m * c) + k + 2 ^ 52 * c
        → 2 ^ 53 * n ≤ 2 ^ 53 * (m * d) + n + 2 ^ 52 * d
    scale_under m k c n d C e h = let i = mul-le-mul_right d h in le_of_mul-le-mul_right {k = c} (omega arith) C

-- ---- bounds

module _ {x : Float} {s : Bool} {n c : ℕ} (r : Rounded x s n c) (C : 0 < c) where
  pub at_most : (h : ℕ) → n ≤ h * c → r.m ≤ raised h
  unfolding raised
  at_most h i =
      let o : 2 ^ 53 * r.m ≤ 2 ^ 53 * h + h + 2 ^ 52 = le_of_mul-le-mul_right {k = c} (omega (arith, r.over)) C in
      omega arith

  pub at_least : (l : ℕ) → l * c ≤ n → lowered l ≤ r.m
  unfolding lowered
  at_least l i =
      let o : 2 ^ 53 * l ≤ 2 ^ 53 * r.m + l + 2 ^ 52 = le_of_mul-le-mul_right {k = c} (omega (arith, r.under)) C in
      omega arith

-- a whole number of at most k units moves by at most `ulp k`
pub near_whole : {x : Float} {s : Bool} {j : ℕ} (r : Rounded x s j 1) (k : ℕ) → j ≤ k → (r.m ≤ j + ulp k) × (j ≤ r.m + ulp k)
unfolding ulp
near_whole r k h = omega (arith, r.over, r.under)

-- a fraction of at most k units, and a divisor of at most d: m * c is n, up to `ulp k + d`
pub near_fraction : {x : Float} {s : Bool} {n c : ℕ} (r : Rounded x s n c) (k d : ℕ) → n ≤ k → c ≤ d
    → (r.m * c ≤ n + (ulp k + d)) × (n ≤ r.m * c + (ulp k + d))
unfolding ulp
near_fraction r k d h i = omega (arith, r.over, r.under)
