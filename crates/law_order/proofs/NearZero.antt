-- `erf_core` up to 0.06 is above zero: the Taylor polynomial's factor lies between 7 / 8 and 15 / 16 with a small low part, and its product with a
-- number between two powers of two, whose low part is zero, is above zero; antt computes it for each power from 2 ^ -53 on. Assumes nothing.
use mathlib.Core.Bool.{Bool, true, false}
use Prim.Native.Nat.{ℕ, suc, ◌+◌, ◌-◌, ◌*◌, ◌^◌, ◌≤◌, ◌<◌}
use native.Mathlib.Nat.{le_of_lt, lt_of_le_of_lt, lt_of_lt_of_le}
use native.Mathlib.Omega.{arith}
use lib.Dec.{T, lit<}
use lib.Pow.{pow_pos, pow_mono}
use lib.Ieee.{binary64, of_bits, size}
use lib.Ieee.Digits.{size-lt, size-le, size_reaches}
use lib.Ieee.Exact.{HasValue}
use Rattle.double_bits.proofs.Digits.{size_above}
use Rattle.pxfm.specs.declared.double_double.DoubleDouble.{DoubleDouble}
use Rattle.pxfm.specs.DoubleDouble.{from_bit_pair, from_exact_mult, quick_mult, mul_add, mul_f64_add, to_f64}
use Rattle.pxfm.specs.Common.{f_fmla}
use Rattle.pxfm.specs.Polyeval.{f_polyeval4}
use Rattle.pxfm.specs.Rationals.{at}
use Rattle.pxfm.specs.Inverfc.{taylor, taylor4_of, taylor7_of}
use Rattle.law_bounds.specs.Interval.{Interval, between, about, In}
use Rattle.law_bounds.proofs.Arithmetic.{add_b, mul_b, within}
use Rattle.law_bounds.proofs.Operations.{widen, counted, counted_in, add_in, mul_in}
use Rattle.law_bounds.proofs.Products.{tight_lo, tight_in}
use Rattle.law_bounds.proofs.Estimate.{EstP, point, const_e, quick_mult_e, mul_add_e, mul_f64_add_e, fmla_e}
use Rattle.law_bounds.proofs.Rationals.{coef}
use Rattle.law_bounds.proofs.Core.{polyeval4_e}
use Rattle.law_bounds.proofs.Pairs.{InP, known, settle}
use Rattle.law_bounds.proofs.Table.{all, all_at}
use Rattle.law_order.specs.Ranges.{above_b, zero_b}

-- ---- the product

-- the factor's two parts
abbrev factor_b : Interval
factor_b = between (7 * 2 ^ 1071) (15 * 2 ^ 1070)

abbrev factor_low_b : Interval
factor_low_b = about true (2 ^ 1044)

abbrev binade : ℕ → Interval
binade k = between (2 ^ k) (2 ^ suc k)

-- the sum of the parts of the product with a number from 2 ^ k units to twice that
abbrev product_b : ℕ → Interval
product_b k =
    add_b (add_b (tight_lo factor_b (binade k)) (add_b (mul_b factor_b zero_b) (mul_b factor_low_b (binade k)))) (mul_b factor_b (binade k))

above : ℕ → Bool
unfolding add_b mul_b tight_lo
above j = within (product_b (1021 + j)) above_b

-- from 2 ^ -53 up to 1 / 8
abbrev pub near_b : Interval
near_b = between (2 ^ 1021) (2 ^ 1071 - 1)

product_in : (r x : DoubleDouble) (k : ℕ) → InP r factor_low_b factor_b → In x.lo zero_b → In x.hi (binade k) → In (to_f64 (quick_mult r x)) (product_b k)
unfolding to_f64 quick_mult from_exact_mult
product_in r x k h z b = add_in (add_in (tight_in h.hi b) (add_in (mul_in h.hi z) (mul_in h.lo b))) (mul_in h.hi b)

all_above : T (all above 50)
unfolding above
all_above = tt

pub product_above : (r x : DoubleDouble) → InP r factor_low_b factor_b → In x.lo zero_b → In x.hi near_b → In (to_f64 (quick_mult r x)) above_b
unfolding above
product_above r x h z b =
    let v = counted (2 ^ 1021) (2 ^ 1071 - 1) (pow_pos 1021) b in
    let i : 1021 < size v.n = size_above 1021 v.n v.low in
    let j : size v.n ≤ 1071 = size-le v.n 1071 (lt_of_le_of_lt v.high (lit< tt)) in
    let k = size v.n - 1022 in
    go k (omega arith) (size_reaches v.n (1021 + k) (omega arith)) (le_of_lt (lt_of_lt_of_le (size-lt v.n) (pow_mono (omega arith)))) v.val
  where
    go : (k : ℕ) {n : ℕ} → k < 50 → 2 ^ (1021 + k) ≤ n → n ≤ 2 ^ suc (1021 + k) → HasValue x.hi false n (2 ^ 1074) → In (to_f64 (quick_mult r x)) above_b
    go k {n} l i j v =
        widen above_b (all_at above 50 k all_above l) (product_in r x (1021 + k) h z (counted_in (2 ^ (1021 + k)) (2 ^ suc (1021 + k)) n v i j))

-- ---- the factor

-- up to 1 / 16
abbrev short_b : Interval
short_b = between 0 (2 ^ 1070)

unfoldable factor4_e : {x : DoubleDouble} → EstP x
    → EstP (let z2 = quick_mult x x in
    mul_add z2 (mul_f64_add z2 (f_fmla z2.hi (of_bits binary64 0x3fb62847c47dda48) (of_bits binary64 0x3fc053c2c0ab91c5)) (at taylor 1)) (at taylor 0))
unfolding taylor quick_mult_e fmla_e mul_f64_add_e mul_add_e const_e point from_bit_pair of_bits
factor4_e x =
    let z2 = quick_mult_e x x in
    let p = fmla_e z2.hi (point (of_bits binary64 0x3fb62847c47dda48)) (point (of_bits binary64 0x3fc053c2c0ab91c5)) in
    mul_add_e z2 (mul_f64_add_e z2 p (coef taylor 1)) (coef taylor 0)

pub taylor4_above : (x : DoubleDouble) → In x.lo zero_b → In x.hi short_b → In x.hi near_b → In (to_f64 (taylor4_of x)) above_b
unfolding taylor4_of factor4_e
taylor4_above x z s b =
    let e : InP x zero_b short_b = record { lo = z; hi = s } in
    product_above _ x (settle factor_low_b factor_b (factor4_e (known e)) tt) z b

unfoldable factor7_e : {x : DoubleDouble} → EstP x
    → EstP (let z2 = quick_mult x x in
    mul_add z2
    (mul_add z2
    (mul_f64_add z2
    (f_polyeval4 z2.hi (of_bits binary64 0x3fb62847c47dda48) (of_bits binary64 0x3fb0a13189c6ef7a) (of_bits binary64 0x3faa7c85c89bb08b)
    (of_bits binary64 0x3fa5eeb1d488e312))
    (at taylor 2))
    (at taylor 1))
    (at taylor 0))
unfolding taylor quick_mult_e polyeval4_e mul_f64_add_e mul_add_e const_e from_bit_pair of_bits
factor7_e x =
    let z2 = quick_mult_e x x in
    let p =
    polyeval4_e z2.hi (of_bits binary64 0x3fb62847c47dda48) (of_bits binary64 0x3fb0a13189c6ef7a) (of_bits binary64 0x3faa7c85c89bb08b)
    (of_bits binary64 0x3fa5eeb1d488e312) in
    mul_add_e z2 (mul_add_e z2 (mul_f64_add_e z2 p (coef taylor 2)) (coef taylor 1)) (coef taylor 0)

pub taylor7_above : (x : DoubleDouble) → In x.lo zero_b → In x.hi short_b → In x.hi near_b → In (to_f64 (taylor7_of x)) above_b
unfolding taylor7_of factor7_e
taylor7_above x z s b =
    let e : InP x zero_b short_b = record { lo = z; hi = s } in
    product_above _ x (settle factor_low_b factor_b (factor7_e (known e)) tt) z b
