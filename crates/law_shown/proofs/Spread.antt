-- The spread is 0, where D is, or at least 2 ^ -8: D is a whole number and the divisor at most 16,384. So it is a whole number of 2 ^ -60. Assumes nothing.
use mathlib.Core.Path.{◌≡◌, refl, subst}
use mathlib.Core.Bool.{Bool, true, false, cond, ◌&&◌}
use Prim.Native.Nat.{ℕ, zero, suc, ◌+◌, ◌-◌, ◌*◌, ◌^◌, ◌≤◌}
use native.Mathlib.Nat.{le_refl}
use native.Mathlib.Omega.{arith}
use lib.Dec.{T}
use lib.Pow.{pow_pos}
use lib.Ieee.{Float, nan, inf, fin, Format, binary64, fits, div}
use lib.Ieee.Exact.{HasValue}
use lib.Ieee.Fits.{nan-fits, inf-fits, div-fits, up_pos, and_l, and_r}
use Rattle.sqrt.specs.Sqrt.{isqrt, round_sqrt, radicand, sqrt_in, sqrt_of}
use Rattle.sqrt.proofs.OneRounding.{round_root_fits}
use Rattle.limit.specs.Formula.{double, spread_by}
use Rattle.law_bounds.specs.Interval.{Interval, Holds, In, between}
use Rattle.law_bounds.proofs.Arithmetic.{raised, lowered, div_b}
use Rattle.law_bounds.proofs.Operations.{widen, counted}
use Rattle.law_bounds.proofs.Estimate.{given}
use Rattle.law_bounds.proofs.Root.{some, root_e}
use Rattle.law_finite.proofs.Formula.{quotient_fits, quotient_in, at_count, scatter_top}
use Rattle.law_shown.proofs.Multiples.{Multiple, multiple}

root_fits : (f : Format) (x : Float) → T (fits f x) → T (fits f (sqrt_in f x))
unfolding sqrt_in round_sqrt
root_fits f nan h = nan-fits f
root_fits f (inf true) h = nan-fits f
root_fits f (inf false) h = inf-fits f false
root_fits f (fin s zero e) h = h
root_fits f (fin true (suc k) e) h = nan-fits f
root_fits f (fin false (suc k) e) h =
    let n = radicand f (fin false (suc k) e) in round_root_fits f (isqrt n) (n - isqrt n * isqrt n) 0

pub spread_fits : (v d : ℕ) → T (fits binary64 (spread_by v d))
unfolding spread_by
spread_fits v d = root_fits binary64 (div binary64 (double d) (double v)) (div-fits binary64 (double d) (double v))

-- ---- no spread

-- the root of a zero is that zero
root_none : (x : Float) (s : Bool) → HasValue x s 0 (2 ^ 1074) → HasValue (sqrt_of x) s 0 (2 ^ 1074)
unfolding sqrt_in
root_none nan s v = absurd v
root_none (inf t) s v = absurd v
root_none (fin t zero e) s v = v
root_none (fin t (suc k) e) s v = absurd (some k _ _ 0 (2 ^ 1074) (up_pos e) (pow_pos 1074) v.1 refl)

none_in : (x : Float) → In x (between 0 0) → Multiple (sqrt_of x)
none_in x h = let v = h.at tt in go v.s v.m v.val (zero_of v.s v.m v.holds)
  where
    zero_of : (s : Bool) (m : ℕ) → Holds (between 0 0) s m → m ≡ 0
    zero_of false m g = omega (arith, g.high)
    zero_of true m g = omega (arith, g.low)

    go : (s : Bool) (m : ℕ) → HasValue x s m (2 ^ 1074) → m ≡ 0 → Multiple (sqrt_of x)
    go s m v e = record { s = s; q = 0; val = root_none x s (subst (λ (k : ℕ). HasValue x s k (2 ^ 1074)) e v) }

-- ---- some spread

-- D / divisor: from 2 ^ -15 to 2 ^ 39
abbrev some_b : Interval
some_b = between (2 ^ 1059) (2 ^ 1113)

root_some : (x : Float) → In x some_b → In (sqrt_of x) (between (2 ^ 1066) (2 ^ 1095))
unfolding root_e
root_some x h = widen (between (2 ^ 1066) (2 ^ 1095)) tt (root_e (given h)).holds

some_multiple : (v d : ℕ) → In (div binary64 (double d) (double v)) some_b → Multiple (spread_by v d)
unfolding spread_by
some_multiple v d h =
    let c = counted (2 ^ 1066) (2 ^ 1095) (pow_pos 1066) (root_some (div binary64 (double d) (double v)) h) in
    multiple (spread_by v d) false c.n (spread_fits v d) c.val c.low

-- ---- each number of times, each divisor

-- D is 0, and D is from 1 on, for a divisor v
abbrev none_at : ℕ → Bool
none_at v = quotient_fits 0 0 v (between 0 0)

abbrev some_at : ℕ → ℕ → Bool
some_at n v = quotient_fits 1 (scatter_top n) v some_b

sample_fits : ℕ → Bool
unfolding div_b lowered raised
sample_fits k = none_at ((k + 2) * (k + 2 - 1)) && some_at (k + 2) ((k + 2) * (k + 2 - 1))

plain_fits : ℕ → Bool
unfolding div_b lowered raised
plain_fits k = none_at ((k + 2) * (k + 2)) && some_at (k + 2) ((k + 2) * (k + 2))

by_divisor : (n v d : ℕ) → T (none_at v && some_at n v) → d ≤ scatter_top n → Multiple (spread_by v d)
unfolding spread_by
by_divisor n v zero t h = none_in (div binary64 (double 0) (double v)) (quotient_in 0 0 0 v (between 0 0) (le_refl 0) (le_refl 0) (and_l (none_at v) _ t))
by_divisor n v (suc d) t h = some_multiple v (suc d) (quotient_in (suc d) 1 (scatter_top n) v some_b (omega arith) h (and_r (none_at v) _ t))

module _ (n : ℕ) (a : 2 ≤ n) (b : n ≤ 128) (d : ℕ) (h : d ≤ scatter_top n) where
  same : n - 2 + 2 ≡ n
  same = omega arith

  pub spread_multiple : (c : Bool) → Multiple (spread_by (cond c (n * (n - 1)) (n * n)) d)
  unfolding sample_fits plain_fits
  spread_multiple true =
      by_divisor n (n * (n - 1)) d (subst (λ (k : ℕ). T (none_at (k * (k - 1)) && some_at k (k * (k - 1)))) same (at_count sample_fits n tt a b)) h
  spread_multiple false =
      by_divisor n (n * n) d (subst (λ (k : ℕ). T (none_at (k * k) && some_at k (k * k))) same (at_count plain_fits n tt a b)) h
