-- A double up to 3 / 8, by its bits: what the logarithms scale it to, normal or not. Assumes nothing.
use mathlib.Core.Path.{◌≡◌, refl, sym, ap, subst}
use mathlib.Core.Bool.{Bool, true, false, cond}
use Prim.Native.Nat.{ℕ, zero, suc, ◌+◌, ◌-◌, ◌*◌, ◌/◌, ◌%◌, ◌^◌, ◌≤◌, ◌<◌}
use native.Mathlib.Nat.{le_trans, le_of_eq, lt_of_le_of_lt, le-div_iff_mul-le, div-one}
use native.Mathlib.Omega.{arith}
use borrow.Author.Tests.{ne_eqb, eqb-true}
use lib.Dec.{eqb, lit<}
use lib.Pow.{pow-add, pow_pos, shr_lt}
use lib.Ieee.{Float, binary64, size, to_bits}
use lib.Ieee.Digits.{size-lt, size-le, size_reaches}
use lib.Ieee.Exact.{HasValue}
use lib.Ieee.Fits.{kept-lt}
use Rattle.pxfm.specs.FastLogDd.{scaled, shift_of, scaled_of}
use Rattle.double_bits.proofs.Digits.{size_above}
use Rattle.double_bits.proofs.Patterns.{bits_of_units}
use Rattle.pxfm.proofs.Shift.{shifted}
use Rattle.law_bounds.specs.Interval.{In}
use Rattle.law_bounds.specs.Ranges.{Depth, usual, deep, every, start, reach_b}
use Rattle.law_bounds.proofs.Operations.{counted}
use Rattle.law_bounds.proofs.Logarithm.{Reached}

-- ---- a normal one

-- the digits kept are 53
top_digits : (n k : ℕ) → size n ≡ 53 + k → (2 ^ 52 ≤ n / 2 ^ k) × (n / 2 ^ k < 2 ^ 53)
top_digits n k e = (
  (le-div_iff_mul-le (pow_pos k)).1 (le_trans (le_of_eq (sym (pow-add 2 52 k))) (size_reaches n (52 + k) (omega arith))),
  shr_lt 53 k (subst (λ (z : ℕ). n < 2 ^ z) e (size-lt n)),
)

pattern_range : (s j k d : ℕ) → s ≤ k + 52 → k ≤ j → 2 ^ 52 ≤ d → d < 2 ^ 53
    → (s * 2 ^ 52 ≤ 0 + k * 2 ^ 52 + d + 51 * 2 ^ 52) × (0 + k * 2 ^ 52 + d < (j + 2) * 2 ^ 52)
pattern_range s j k d a b c e = omega arith

-- the pattern of a double of n units, from 2 ^ s of them up
bits_in : (x : Float) (n s j : ℕ) → HasValue x false n (2 ^ 1074) → 52 < s → 2 ^ s ≤ n → n < 2 ^ (53 + j)
    → (s * 2 ^ 52 ≤ to_bits binary64 x + 51 * 2 ^ 52) × (to_bits binary64 x < (j + 2) * 2 ^ 52)
bits_in x n s j v h a b =
    let g : s < size n = size_above s n a in
    let l : size n ≤ 53 + j = size-le n (53 + j) b in
    let k = size n - 53 in
    let d = top_digits n k (omega arith) in
    rw (bits_of_units binary64 x false n v) (pattern_range s j k (n / 2 ^ k) (omega arith) (omega arith) d.0 d.1)

normal : (b : ℕ) → 2 ^ 52 ≤ b → scaled_of b ≡ scaled (b % 2 ^ 52 + 2 ^ 52) (b / 2 ^ 52 + 51)
unfolding scaled_of
normal b h =
    let n : eqb (b / 2 ^ 52) 0 ≡ false = ne_eqb (b / 2 ^ 52) 0 (λ (e : b / 2 ^ 52 ≡ 0). omega arith) in
    ap (λ c. cond c (scaled (b * 2 ^ shift_of b) (52 - shift_of b)) (scaled (b % 2 ^ 52 + 2 ^ 52) (b / 2 ^ 52 + 51))) n

reached_of : (d : Depth) (x : Float) → 52 < start d → start d * 2 ^ 52 ≤ to_bits binary64 x + 51 * 2 ^ 52 → to_bits binary64 x < 1022 * 2 ^ 52 → Reached d x
reached_of d x k l h =
    let b = to_bits binary64 x in
    let e = normal b (omega arith) in
    record { low = rw e (omega arith); high = rw e (omega arith); from = rw e (omega arith); to = rw e (omega arith) }

reached_normal : (d : Depth) (x : Float) → 52 < start d → In x (reach_b d) → Reached d x
reached_normal d x s h =
    let v = counted (2 ^ start d) (3 * 2 ^ 1071) (pow_pos (start d)) h in
    let b = bits_in x v.n (start d) 1020 v.val s v.low (lt_of_le_of_lt v.high (lit< tt)) in
    reached_of d x s b.0 b.1

-- ---- any one above zero

any_pattern : (n k d : ℕ) → 0 < n → k ≡ size n - 53 → size n ≤ 1073 → d < 2 ^ 53 → (k ≡ 0 → d ≡ n)
    → (0 < 0 + k * 2 ^ 52 + d) × (0 + k * 2 ^ 52 + d < 1022 * 2 ^ 52)
any_pattern n k d p e s l f = (above k f, omega arith)
  where
    above : (k : ℕ) → (k ≡ 0 → d ≡ n) → 0 < 0 + k * 2 ^ 52 + d
    above zero f = let z = f refl in omega arith
    above (suc k) f = omega arith

any_bits : (x : Float) (n : ℕ) → HasValue x false n (2 ^ 1074) → 0 < n → n < 2 ^ 1073
    → (0 < to_bits binary64 x) × (to_bits binary64 x < 1022 * 2 ^ 52)
any_bits x n v p h =
    rw (bits_of_units binary64 x false n v)
    (any_pattern n (size n - 53) (n / 2 ^ (size n - 53)) p refl (size-le n 1073 h) (kept-lt 53 n) (λ (e : size n - 53 ≡ 0). rw e (div-one n)))

reached_any : (x : Float) → 0 < to_bits binary64 x → to_bits binary64 x < 1022 * 2 ^ 52 → Reached every x
unfolding scaled_of
reached_any x p h = go (eqb (b / 2 ^ 52) 0) (eqb-true (b / 2 ^ 52) 0) refl
  where
    b : ℕ
    b = to_bits binary64 x

    go : (t : Bool) → (t ≡ true → b / 2 ^ 52 ≡ 0) → eqb (b / 2 ^ 52) 0 ≡ t → Reached every x
    go true f e =
        let s = shifted 64 52 b (omega arith) p (let z = f refl in omega arith) in
        record { low = rw e s.low; high = rw e s.high; from = omega arith; to = rw e (omega arith) }
    go false f e = record { low = rw e (omega arith); high = rw e (omega arith); from = omega arith; to = rw e (omega arith) }

pub reached : (d : Depth) (x : Float) → In x (reach_b d) → Reached d x
reached usual x h = reached_normal usual x (lit< tt) h
reached deep x h = reached_normal deep x (lit< tt) h
reached every x h =
    let v = counted 1 (3 * 2 ^ 1071) (lit< tt) h in
    let b = any_bits x v.n v.val v.low (lt_of_le_of_lt v.high (lit< tt)) in
    reached_any x b.0 b.1
