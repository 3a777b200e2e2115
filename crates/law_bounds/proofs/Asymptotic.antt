-- From a logarithm between -913 / 64 and -19 / 64 to either asymptotic rational: above zero, and at most 4; from -2333 / 64, at most 7; from -745, at
-- most 64. The root of zeta, its reciprocal and both rationals are estimated on fifteen parts of zeta's range, on five more, and on three more. A part
-- is so narrow that the numerator's greatest over the denominator's least, times the root's greatest, is below that; all coefficients but one are
-- positive. Assumes nothing.
use mathlib.Core.Bool.{Bool, true, false, not, ◌&&◌}
use Prim.Native.Nat.{ℕ, ◌*◌, ◌^◌, ◌≤◌, ◌<◌}
use native.Mathlib.Nat.{le_of_lt}
use lib.Dec.{T, leb, lit<, leb→le, nleb→lt}
use lib.Ieee.Exact.{HasValue}
use lib.Ieee.Fits.{and_l, and_r}
use Rattle.pxfm.specs.declared.double_double.DoubleDouble.{DoubleDouble}
use Rattle.pxfm.specs.DoubleDouble.{neg_of, from_exact_add, recip_of, fast_sqrt}
use Rattle.pxfm.specs.Rationals.{inverf_asympt_small, inverf_asympt_long}
use Rattle.pxfm.specs.Inverfc.{zeta_sqrt, asymptotic}
use Rattle.law_bounds.specs.Interval.{In}
use Rattle.law_bounds.specs.Ranges.{Depth, usual, deep, every, log_b, log_low_b, zeta_part_b, zeta_end, zeta_b, zeta_low_b, tail_b, result_low_b}
use Rattle.law_bounds.proofs.Arithmetic.{within}
use Rattle.law_bounds.proofs.Operations.{widen, counted, counted_in}
use Rattle.law_bounds.proofs.Estimate.{given, exact_add_e, neg_pair_e, recip_e}
use Rattle.law_bounds.proofs.FastSqrt.{fast_sqrt_e}
use Rattle.law_bounds.proofs.Rationals.{small_e, long_e}
use Rattle.law_bounds.proofs.Pairs.{InP, known, within_p, settle, by_test_pair}

-- ---- both rationals on a part of zeta's range

record Rationals (d : Depth) (y : DoubleDouble) : Type 0 where
  short : InP (inverf_asympt_small (recip_of (fast_sqrt y)) (fast_sqrt y)) result_low_b (tail_b d)
  long : InP (inverf_asympt_long (recip_of (fast_sqrt y)) (fast_sqrt y)) result_low_b (tail_b d)

fits : (d : Depth) (a b : ℕ) (y : DoubleDouble) → InP y zeta_low_b (zeta_part_b a b) → Bool
unfolding fast_sqrt_e recip_e small_e long_e
fits d a b y h =
    let r = fast_sqrt_e (known h) in
    let z = recip_e r in
    within_p (small_e z r) result_low_b (tail_b d) && within_p (long_e z r) result_low_b (tail_b d)

rationals_at : (d : Depth) (a b : ℕ) (y : DoubleDouble) (h : InP y zeta_low_b (zeta_part_b a b)) → T (fits d a b y h) → Rationals d y
unfolding fits
rationals_at d a b y h t =
    let r = fast_sqrt_e (known h) in
    let z = recip_e r in
    let o = within_p (small_e z r) result_low_b (tail_b d) in
    record { short = settle result_low_b (tail_b d) (small_e z r) (and_l o _ t); long = settle result_low_b (tail_b d) (long_e z r) (and_r o _ t) }

-- at most 4 is at most 7, and that at most 64
deeper : {y : DoubleDouble} {c : Depth} (d : Depth) → T (within (tail_b c) (tail_b d)) → Rationals c y → Rationals d y
deeper d t r =
    record {
      short = record { lo = r.short.lo; hi = widen (tail_b d) t r.short.hi };
      long = record { lo = r.long.lo; hi = widen (tail_b d) t r.long.hi };
    }

-- ---- the parts

module _ (y : DoubleDouble) (lo : In y.lo zeta_low_b) (n : ℕ) (v : HasValue y.hi false n (2 ^ 1074)) where
  split : {A : Type 0} (b : ℕ) → (n ≤ b → A) → (b ≤ n → A) → A
  split {A = A} b up above = go (leb n b) (leb→le n b) (nleb→lt n b)
    where
      go : (c : Bool) → (T c → n ≤ b) → (T (not c) → b < n) → A
      go true f g = up (f tt)
      go false f g = above (le_of_lt (g tt))

  last : (d : Depth) (a b : ℕ) → ((i : InP y zeta_low_b (zeta_part_b a b)) → T (fits d a b y i)) → n ≤ b * 2 ^ 1069 → a * 2 ^ 1069 ≤ n → Rationals d y
  last d a b t top low =
      let i : InP y zeta_low_b (zeta_part_b a b) = record { lo = lo; hi = counted_in (a * 2 ^ 1069) (b * 2 ^ 1069) n v low top } in
      rationals_at d a b y i (t i)

  -- up to b by the test, and above b by what is said there
  part : (d : Depth) (a b : ℕ) → ((i : InP y zeta_low_b (zeta_part_b a b)) → T (fits d a b y i)) → (b * 2 ^ 1069 ≤ n → Rationals d y) → a * 2 ^ 1069 ≤ n
      → Rationals d y
  part d a b t above low = split (b * 2 ^ 1069) (λ top. last d a b t top low) above

  upper : n ≤ 457 * 2 ^ 1069 → 188 * 2 ^ 1069 ≤ n → Rationals usual y
  unfolding fits
  upper top =
      part usual 188 232 (λ i. tt) (part usual 232 277 (λ i. tt) (part usual 277 321 (λ i. tt) (part usual 321 362 (λ i. tt) (part usual 362 399 (λ i. tt)
      (part usual 399 431 (λ i. tt) (last usual 431 457 (λ i. tt) top))))))

  lower : n ≤ 457 * 2 ^ 1069 → 9 * 2 ^ 1069 ≤ n → Rationals usual y
  unfolding fits
  lower top =
      part usual 9 15 (λ i. tt) (part usual 15 24 (λ i. tt) (part usual 24 37 (λ i. tt) (part usual 37 55 (λ i. tt) (part usual 55 79 (λ i. tt)
      (part usual 79 110 (λ i. tt) (part usual 110 147 (λ i. tt) (part usual 147 188 (λ i. tt) (upper top))))))))

  far : n ≤ 1167 * 2 ^ 1069 → 457 * 2 ^ 1069 ≤ n → Rationals deep y
  unfolding fits
  far top =
      part deep 457 603 (λ i. tt) (part deep 603 756 (λ i. tt) (part deep 756 906 (λ i. tt) (part deep 906 1046 (λ i. tt)
      (last deep 1046 1167 (λ i. tt) top))))

  to_far : n ≤ 1167 * 2 ^ 1069 → 9 * 2 ^ 1069 ≤ n → Rationals deep y
  to_far top low = split (457 * 2 ^ 1069) (λ up. deeper deep tt (lower up low)) (far top)

  farther : n ≤ 746 * 32 * 2 ^ 1069 → 1167 * 2 ^ 1069 ≤ n → Rationals every y
  unfolding fits
  farther top = part every 1167 3500 (λ i. tt) (part every 3500 10500 (λ i. tt) (last every 10500 (746 * 32) (λ i. tt) top))

  whole : (d : Depth) → n ≤ zeta_end d * 2 ^ 1069 → 9 * 2 ^ 1069 ≤ n → Rationals d y
  whole usual top low = lower top low
  whole deep top low = to_far top low
  whole every top low = split (1167 * 2 ^ 1069) (λ up. deeper every tt (to_far up low)) (farther top)

rationals : (d : Depth) (y : DoubleDouble) → InP y zeta_low_b (zeta_b d) → Rationals d y
rationals d y h = let v = counted (9 * 2 ^ 1069) (zeta_end d * 2 ^ 1069) (lit< tt) h.hi in whole y h.lo v.n v.val d v.high v.low

-- ---- the whole

zeta_in : (d : Depth) (l : DoubleDouble) → InP l log_low_b (log_b d) → InP (neg_of (from_exact_add l.hi l.lo)) zeta_low_b (zeta_b d)
unfolding neg_pair_e exact_add_e
zeta_in usual l h = settle zeta_low_b (zeta_b usual) (neg_pair_e (exact_add_e (given h.hi) (given h.lo))) tt
zeta_in deep l h = settle zeta_low_b (zeta_b deep) (neg_pair_e (exact_add_e (given h.hi) (given h.lo))) tt
zeta_in every l h = settle zeta_low_b (zeta_b every) (neg_pair_e (exact_add_e (given h.hi) (given h.lo))) tt

pub asymptotic_in : (d : Depth) (l : DoubleDouble) (short : Bool) → InP l log_low_b (log_b d) → InP (asymptotic l short) result_low_b (tail_b d)
unfolding asymptotic zeta_sqrt
asymptotic_in d l short h =
    let r = rationals d (neg_of (from_exact_add l.hi l.lo)) (zeta_in d l h) in
    by_test_pair result_low_b (tail_b d) short (λ t. r.short) (λ t. r.long)
