-- What the logarithms take from their table and from the argument's exponent, in intervals that hold for every bin. Assumes nothing.
-- Tests that antt computes at each of the 182 entries: z is at most 1 / 64 in size over the whole bin, the entry's logarithm is at most 3 / 8,
-- and its low part is small.
use mathlib.Core.Logic.{inl, inr}
use mathlib.Core.Path.{◌≡◌, refl, ap, ◌∙◌, subst}
use mathlib.Core.Bool.{Bool, true, false, ◌&&◌, cond}
use Prim.Native.Nat.{ℕ, zero, suc, ◌+◌, ◌-◌, ◌*◌, ◌^◌, ◌≤◌, ◌<◌}
use native.Mathlib.Nat.{mul_assoc, mul-le-mul_right, le_of_lt, not-suc-le-zero, le_of_suc-le-suc, eq-or-lt_of_le}
use native.Mathlib.Omega.{arith}
use lib.Dec.{T}
use lib.Pow.{pow_pos}
use lib.Ieee.{Float, binary64, of_bits, of_int, minus, neg}
use lib.Ieee.Exact.{HasValue}
use lib.Ieee.Fits.{and_l, and_r}
use Rattle.pxfm.specs.DoubleDouble.{one}
use Rattle.pxfm.specs.Common.{dd_fmla}
use Rattle.log_tables.specs.PowTables.{pow_inverse}
use Rattle.log_tables.specs.LogTable.{fast_log_dd_inv_lo, fast_log_dd_inv_hi}
use Rattle.log_tables.specs.Rows.{entry_at}
use Rattle.pxfm.specs.FastLogDd.{halved, carry_of, index_of, reduced_of, exponent_of}
use Rattle.pxfm.specs.Bins.{InBin}
use Rattle.pxfm.proofs.Exact.{value_same}
use Rattle.pxfm.proofs.Tables.{every_at}
use Rattle.pxfm.proofs.Bins.{significand_indexed}
use Rattle.pxfm.proofs.Reduced.{reduced_value}
use Rattle.law_bounds.specs.Interval.{Interval, In}
use Rattle.law_bounds.specs.Ranges.{Depth, usual, deep, every, start, bin_b, z_b, exponent_b, entry_high_b, entry_low_b}
use Rattle.law_bounds.proofs.Arithmetic.{add_b, mul_b, neg_b, point_b, within}
use Rattle.law_bounds.proofs.Operations.{point_in, widen, counted_in}
use Rattle.law_bounds.proofs.Products.{tight_lo}
use Rattle.law_bounds.proofs.Sums.{sum_lo}
use Rattle.law_bounds.proofs.Estimate.{given, point, sum_e, times_e, neg_e, exact_mult_e, full_exact_add_e, full_add_e, to_f64_e, fma_e}

-- ---- the reduced argument, in its bin

-- u of these units are k of those, of which w make a 256th
module _ (u k w : ℕ) (e : k * u ≡ 256 * w) where
  at_least : (a m : ℕ) → a * u ≤ 256 * m → a * w ≤ m * k
  at_least a m h =
      let f = ap (λ (z : ℕ). a * z) e in
      let g = mul-le-mul_right k h in
      omega arith

  at_most : (a m : ℕ) → 256 * m < a * u → m * k ≤ a * w
  at_most a m h =
      let f = ap (λ (z : ℕ). a * z) e in
      let g = mul-le-mul_right k (le_of_lt h) in
      omega arith

bin_units : (t : Float) (i m u k : ℕ) → 0 < u → k * u ≡ 2 ^ 1074 → HasValue t false m u → InBin i m u → In t (bin_b i)
bin_units t i m u k U e v b =
    counted_in ((i + 181) * 2 ^ 1066) ((i + 182) * 2 ^ 1066) (m * k)
    (value_same t false m u (m * k) (2 ^ 1074) U (mul_assoc m k u ∙ ap (λ (z : ℕ). m * z) e) v)
    (at_least u k (2 ^ 1066) e (i + 181) m b.from) (at_most u k (2 ^ 1066) e (i + 182) m b.to)

bin_in : (m : ℕ) → 2 ^ 52 ≤ m → m < 2 ^ 53 → In (reduced_of m) (bin_b (index_of m))
bin_in m l h = go (halved m) (reduced_value m l h) (significand_indexed m l h).in_bin
  where
    go : (b : Bool) → HasValue (reduced_of m) false m (cond b (2 ^ 53) (2 ^ 52)) → InBin (index_of m) m (cond b (2 ^ 53) (2 ^ 52))
        → In (reduced_of m) (bin_b (index_of m))
    go true v b = bin_units (reduced_of m) (index_of m) m (2 ^ 53) (2 ^ 1021) (pow_pos 53) refl v b
    go false v b = bin_units (reduced_of m) (index_of m) m (2 ^ 52) (2 ^ 1022) (pow_pos 52) refl v b

-- ---- z, r × t - 1

-- the interval of `fma_e`
abbrev fma_b : Interval → Interval → Interval → Interval
fma_b a b c = add_b (add_b (tight_lo a b) (sum_lo (mul_b a b) c)) (add_b (mul_b a b) c)

z_ok : ℕ → ℕ → Bool
unfolding of_bits add_b mul_b neg_b point_b tight_lo sum_lo
z_ok i b = within (fma_b (point_b (of_bits binary64 b)) (bin_b i) (neg_b (point_b one))) z_b

pub z_in : (m : ℕ) → 2 ^ 52 ≤ m → m < 2 ^ 53 → In (dd_fmla (entry_at pow_inverse (index_of m)) (reduced_of m) (neg one)) z_b
unfolding pow_inverse z_ok fma_e to_f64_e full_add_e exact_mult_e full_exact_add_e sum_e times_e point neg_e
z_in m l h =
    widen z_b (every_at z_ok pow_inverse tt (index_of m) (significand_indexed m l h).index_below)
    (fma_e (point (entry_at pow_inverse (index_of m))) (given (bin_in m l h)) (neg_e (point one))).holds

-- ---- the exponent

exponent_ok : Depth → ℕ → Bool
unfolding point_b of_int
exponent_ok d n = within (point_b (of_int binary64 (minus (start d + n) 1074))) (exponent_b d)

-- a test at each number below n
abbrev pub all : (ℕ → Bool) → ℕ → Bool
all f zero = true
all f (suc n) = f n && all f n

pub all_at : (f : ℕ → Bool) (n k : ℕ) → T (all f n) → k < n → T (f k)
all_at f zero k t h = absurd (not-suc-le-zero h)
all_at f (suc n) k t h =
    elim (eq-or-lt_of_le (le_of_suc-le-suc h)) [
      | inl e ↦ rw e (and_l (f n) _ t)
      | inr l ↦ all_at f n k (and_r (f n) _ t) l
    ]

exponents : (d : Depth) → T (all (exponent_ok d) (1074 - start d))
unfolding exponent_ok
exponents usual = tt
exponents deep = tt
exponents every = tt

exponent_at : (d : Depth) (n : ℕ) → start d ≤ n → n < 1074 → In (of_int binary64 (minus n 1074)) (exponent_b d)
unfolding exponent_ok
exponent_at d n l h =
    let e : start d + (n - start d) ≡ n = omega arith in
    subst (λ (k : ℕ). In (of_int binary64 (minus k 1074)) (exponent_b d)) e
    (widen (exponent_b d) (all_at (exponent_ok d) (1074 - start d) (n - start d) (exponents d) (omega arith))
    (point_in (of_int binary64 (minus (start d + (n - start d)) 1074))))

pub exponent_in : (d : Depth) (m e : ℕ) → start d ≤ e → e ≤ 1072 → In (exponent_of m e) (exponent_b d)
unfolding exponent_of carry_of
exponent_in d m e l h = go (halved m)
  where
    go : (b : Bool) → In (of_int binary64 (minus (e + cond b 1 0) 1074)) (exponent_b d)
    go true = exponent_at d (e + 1) (omega arith) (omega arith)
    go false = exponent_at d (e + 0) (omega arith) (omega arith)

-- ---- the entries' logarithms

high_ok : ℕ → ℕ → Bool
unfolding of_bits point_b
high_ok i b = within (point_b (of_bits binary64 b)) entry_high_b

low_ok : ℕ → ℕ → Bool
unfolding of_bits point_b
low_ok i b = within (point_b (of_bits binary64 b)) entry_low_b

pub high_in : (i : ℕ) → i < 182 → In (entry_at fast_log_dd_inv_hi i) entry_high_b
unfolding fast_log_dd_inv_hi high_ok
high_in i h = widen entry_high_b (every_at high_ok fast_log_dd_inv_hi tt i h) (point_in (entry_at fast_log_dd_inv_hi i))

pub low_in : (i : ℕ) → i < 182 → In (entry_at fast_log_dd_inv_lo i) entry_low_b
unfolding fast_log_dd_inv_lo low_ok
low_in i h = widen entry_low_b (every_at low_ok fast_log_dd_inv_lo tt i h) (point_in (entry_at fast_log_dd_inv_lo i))
