-- Midpoints beside a root, on natural numbers: n has the whole root s, and the result of rounding it is c * 2 * P, with P = 2 ^ k the weight of the
-- highest digit of s that is dropped. Another multiple of 2 * P, or a number with fewer digits than s, has its midpoint with the result beyond the
-- root, on its own side. Assumes nothing.
use Rattle.std.proofs.Common.{◌≡◌, ℕ, suc, ◌+◌, ◌*◌, ◌/◌, ◌%◌, ◌<◌, ◌≤◌, not, T, sym, ap, ◌∙◌, le_of_eq, lt_of_lt_of_le, lt_of_le_of_lt, mul-le-mul_right, mod-lt, mul_assoc, suc-mul, mul_comm, add-mul, mul-le-mul, lt_of_mul-lt-mul_right, one-mul, lt_of_not-le, div-add-mod', mul_left_comm, add-one, arith, eqb→eq, leb→le}
use Prim.Native.Nat.{compare, Ordering}
use native.Mathlib.Decide.{dec_le}
use lib.Dec.{is_le, compare_is_eq, nleb→lt}
use lib.Ieee.{nearest}
use lib.Ieee.Nearest.{closest}
use Rattle.sqrt.specs.Sqrt.{IsRoot}
use Rattle.sqrt.proofs.Squares.{sq_suc, sq_dbl}

-- ---- the nearest whole number is within a half

module _ (a b : ℕ) (B : 0 < b) where
  parts : a / b * b + a % b ≡ a
  parts = div-add-mod' a b

  near : (o : Ordering) → (T (is_le o) → a % b * 2 ≤ b) → (T (compare_is_eq o) → a % b * 2 ≡ b) → (T (not (is_le o)) → b < a % b * 2)
      → (2 * a ≤ 2 * (nearest (a / b) o * b) + b) × (2 * (nearest (a / b) o * b) ≤ 2 * a + b)
  near Ordering.lt h e g = let p = parts in let l = h tt in (omega arith, omega arith)
  near Ordering.eq h e g =
      let p = parts in
      let l = e tt in
      let d : (a / b + a / b % 2) * b ≡ a / b * b + a / b % 2 * b = add-mul (a / b) (a / b % 2) b in
      let i : a / b % 2 * b ≤ 1 * b = mul-le-mul_right b (last (a / b)) in
      (omega arith, omega arith)
    where
      last : (q : ℕ) → q % 2 ≤ 1
      last q = omega arith
  near Ordering.gt h e g =
      let p = parts in
      let l = g tt in
      let d = suc-mul (a / b) b in
      let m = mod-lt a B in
      (omega arith, omega arith)

  pub closest_near : (2 * a ≤ 2 * (closest a b * b) + b) × (2 * (closest a b * b) ≤ 2 * a + b)
  closest_near = near (compare (a % b * 2) b) (leb→le (a % b * 2) b) (eqb→eq (a % b * 2) b) (nleb→lt (a % b * 2) b)

-- ---- squares beside n, from a number beside its whole root s

both : (a b : ℕ) → a ≤ b → b ≤ a → a ≡ b
both a b h k = omega arith

sq_more : (d : ℕ) → suc d * suc d ≡ d * d + 2 * d + 1
sq_more d = ap (λ (x : ℕ). x * x) (sym (add-one d)) ∙ sq_suc d

mid_below : (n s d : ℕ) → IsRoot n s → d ≤ 2 * s → (s * s ≡ n → d ≡ 2 * s → ⊥) → d * d < 4 * n
mid_below n s d R l no_tie = go (dec_le n (s * s))
  where
    go : Dec (n ≤ s * s) → d * d < 4 * n
    go (yes e) =
        let k : suc d ≤ 2 * s = lt_of_not-le (λ (g : 2 * s ≤ d). no_tie (both (s * s) n R.low e) (both d (2 * s) l g)) in
        let h : suc d * suc d ≤ 2 * s * (2 * s) = mul-le-mul k k in
        let i = sq_dbl s in
        let j = sq_more d in
        let m = R.low in
        omega arith
    go (no e) =
        let h : d * d ≤ 2 * s * (2 * s) = mul-le-mul l l in
        let i = sq_dbl s in
        let k = lt_of_not-le e in
        omega arith

mid_above : (n s d : ℕ) → IsRoot n s → 2 * s ≤ d → (s * s ≡ n → d ≡ 2 * s → ⊥) → (s * s < n → 2 * s + 2 ≤ d) → 4 * n < d * d
mid_above n s d R l no_tie far = go (dec_le n (s * s))
  where
    go : Dec (n ≤ s * s) → 4 * n < d * d
    go (yes e) =
        let k : suc (2 * s) ≤ d = lt_of_not-le (λ (g : d ≤ 2 * s). no_tie (both (s * s) n R.low e) (both d (2 * s) g l)) in
        let h : suc (2 * s) * suc (2 * s) ≤ d * d = mul-le-mul k k in
        let i = sq_dbl s in
        let j = sq_more (2 * s) in
        omega arith
    go (no e) =
        let k : 2 * (s + 1) ≤ d = let g = far (lt_of_not-le e) in omega arith in
        let h : 2 * (s + 1) * (2 * (s + 1)) ≤ d * d = mul-le-mul k k in
        let i = sq_dbl (s + 1) in
        let m = R.high in
        omega arith

-- ---- the result c * 2 * P beside a multiple v * 2 * P of the same weight, and beside a smaller number

-- what is known of n, its whole root s and the result; h * 2 * P is the smallest number with as many digits as s
pub record Rounded (n s t c h P : ℕ) : Type 0 where
  pub root : IsRoot n s
  pub near_lo : 2 * (2 * s + t) ≤ 2 * (c * (4 * P)) + 4 * P
  pub near_hi : 2 * (c * (4 * P)) ≤ 2 * (2 * s + t) + 4 * P
  pub half_le : t ≤ 1
  pub half_ge : s * s < n → 1 ≤ t
  pub size_s : h * 2 * P ≤ s
  pub size_c : h ≤ c
  pub no_tie : (w : ℕ) → s * s ≡ n → s ≡ (2 * w + 1) * P → ⊥

-- products of a whole number with P, as `omega` is to see them
pub times4 : (c P : ℕ) → c * (4 * P) ≡ 4 * (c * P)
times4 c P = mul_left_comm c 4 P

pub times2 : (c P : ℕ) → c * 2 * P ≡ 2 * (c * P)
times2 c P = ap (λ (x : ℕ). x * P) (mul_comm c 2) ∙ mul_assoc 2 c P

twice_one : (c P : ℕ) → (2 * c + 1) * P ≡ 2 * (c * P) + P
twice_one c P = add-mul (2 * c) 1 P ∙ ap (λ (x : ℕ). x + 1 * P) (mul_assoc 2 c P) ∙ ap (λ (x : ℕ). 2 * (c * P) + x) (one-mul P)

whole_less : (a b P : ℕ) → a * 2 * P < b * 2 * P → a < b
whole_less a b P l =
    lt_of_mul-lt-mul_right (2 * P) (lt_of_le_of_lt (le_of_eq (sym (mul_assoc a 2 P))) (lt_of_lt_of_le l (le_of_eq (mul_assoc b 2 P))))

module _ (n s t c h P : ℕ) (p : 0 < P) (R : Rounded n s t c h P) where
  pub larger : (v : ℕ) → c * 2 * P < v * 2 * P → 4 * n < (c * 2 * P + v * 2 * P) * (c * 2 * P + v * 2 * P)
  larger v l =
      let a = times4 c P in
      let b = times2 c P in
      let d = times2 v P in
      let e : suc c * P ≤ v * P = mul-le-mul_right P (whole_less c v P l) in
      let f = suc-mul c P in
      let lo = R.near_lo in
      let hi = R.near_hi in
      mid_above n s (c * 2 * P + v * 2 * P) R.root (omega arith)
      (λ (q : s * s ≡ n) (g : c * 2 * P + v * 2 * P ≡ 2 * s). R.no_tie c q (let i = twice_one c P in omega arith))
      (λ (m : s * s < n). let i = R.half_ge m in omega arith)

  pub smaller : (v : ℕ) → v * 2 * P < c * 2 * P → (c * 2 * P + v * 2 * P) * (c * 2 * P + v * 2 * P) < 4 * n
  smaller v l =
      let a = times4 c P in
      let b = times2 c P in
      let d = times2 v P in
      let e : suc v * P ≤ c * P = mul-le-mul_right P (whole_less v c P l) in
      let f = suc-mul v P in
      let hi = R.near_hi in
      let t1 = R.half_le in
      mid_below n s (c * 2 * P + v * 2 * P) R.root (omega arith)
      (λ (q : s * s ≡ n) (m : c * 2 * P + v * 2 * P ≡ 2 * s). R.no_tie v q (let i = twice_one v P in omega arith))

  -- a number with fewer digits than s: the result is then at most s itself, or the number is well below it
  pub shorter : (v : ℕ) → v < h * 2 * P → (c * 2 * P + v) * (c * 2 * P + v) < 4 * n
  shorter v l = go (dec_le c h)
    where
      go : Dec (c ≤ h) → (c * 2 * P + v) * (c * 2 * P + v) < 4 * n
      go (yes m) =
          let e : c * 2 * P ≤ h * 2 * P = mul-le-mul_right P (mul-le-mul_right 2 m) in
          let z = R.size_s in
          let g : c * 2 * P + v < 2 * s = omega arith in
          mid_below n s (c * 2 * P + v) R.root (omega arith) (λ (q : s * s ≡ n) (i : c * 2 * P + v ≡ 2 * s). omega arith)
      go (no m) =
          let a = times4 c P in
          let b = times2 c P in
          let d = times2 h P in
          let e : suc h * P ≤ c * P = mul-le-mul_right P (lt_of_not-le m) in
          let f = suc-mul h P in
          let hi = R.near_hi in
          let t1 = R.half_le in
          mid_below n s (c * 2 * P + v) R.root (omega arith) (λ (q : s * s ≡ n) (i : c * 2 * P + v ≡ 2 * s). omega arith)
