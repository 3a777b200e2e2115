-- Both logarithms of an argument below 1 / 2, estimated by one interval for every bin and every exponent of its depth. Assumes nothing.
use mathlib.Core.Bool.{◌||◌}
use Prim.Native.Nat.{ℕ, ◌^◌, ◌≤◌, ◌<◌}
use lib.Dec.{T}
use lib.Ieee.{Float, binary64, of_bits, to_bits, neg, add, le}
use Rattle.pxfm.specs.declared.double_double.DoubleDouble.{DoubleDouble}
use Rattle.pxfm.specs.DoubleDouble.{new_of, one, from_bit_pair, log2_dd, f64_add}
use Rattle.pxfm.specs.Common.{dd_fmla}
use Rattle.log_tables.specs.PowTables.{pow_inverse}
use Rattle.log_tables.specs.Rows.{entry_at}
use Rattle.pxfm.specs.PowExec.{half, p1, log_poly1}
use Rattle.pxfm.specs.FastLogDd.{fast_log_dd_inv, index_of, reduced_of, exponent_of, scaled_of, parts_of, fast_log_dTo_dd, log_lo, fast_log_dd}
use Rattle.pxfm.proofs.Bins.{significand_indexed}
use Rattle.law_bounds.specs.Interval.{In}
use Rattle.law_bounds.specs.Ranges.{Depth, start, share_b}
use Rattle.law_bounds.proofs.Arithmetic.{within}
use Rattle.law_bounds.proofs.Operations.{widen}
use Rattle.law_bounds.proofs.Estimate.{Est, EstP, given, pair_e, point, const_e, sum_e}
use Rattle.law_bounds.proofs.Estimate.{times_e, over_e, neg_e, exact_mult_e, exact_add_e, f64_add_e, mul_f64_add_e, fma_e}
use Rattle.law_bounds.proofs.Pairs.{by_test_lem}
use Rattle.law_bounds.proofs.Table.{z_in, exponent_in, low_in, high_in}

-- ---- the polynomial

unfoldable pub log_poly_e : {z : Float} → Est z → EstP (log_poly1 z)
unfolding log_poly1 p1 of_bits exact_mult_e fma_e times_e neg_e point
log_poly_e z =
    let w = exact_mult_e z z in
    let t = fma_e (point (entry_at p1 5)) z (point (entry_at p1 4)) in
    let u = fma_e (point (entry_at p1 3)) z (point (entry_at p1 2)) in
    let v = fma_e (point (entry_at p1 1)) z (point (entry_at p1 0)) in
    let u2 = fma_e t w.hi u in
    let v2 = fma_e u2 w.hi v in
    let u3 = times_e v2 w.hi in
    pair_e (fma_e u3 z (times_e (neg_e (point half)) w.lo)) (times_e (neg_e (point half)) w.hi)

-- ---- the logarithm of a double

-- the sum that it adds up last
unfoldable pub summed_of : Float → DoubleDouble
summed_of x =
    let s = parts_of x in
    let p = log_poly1 s.z in
    f64_add s.v.hi (new_of (add binary64 s.v.lo p.lo) p.hi)

-- The significand and the exponent of x, which is below 1 / 2, and not below the depth's start.
pub record Reached (d : Depth) (x : Float) : Type 0 where
  pub low : 2 ^ 52 ≤ (scaled_of (to_bits binary64 x)).m
  pub high : (scaled_of (to_bits binary64 x)).m < 2 ^ 53
  pub from : start d ≤ (scaled_of (to_bits binary64 x)).e
  pub to : (scaled_of (to_bits binary64 x)).e ≤ 1072

module _ {d : Depth} (x : Float) (r : Reached d x) where
  abbrev pub m : ℕ
  m = (scaled_of (to_bits binary64 x)).m

  abbrev pub z_e : Est (dd_fmla (entry_at pow_inverse (index_of m)) (reduced_of m) (neg one))
  z_e = given (z_in m r.low r.high)

  abbrev pub w_e : Est (exponent_of m (scaled_of (to_bits binary64 x)).e)
  w_e = given (exponent_in d m (scaled_of (to_bits binary64 x)).e r.from r.to)

  abbrev pub l_e : EstP (fast_log_dd_inv (index_of m))
  l_e =
      let i = (significand_indexed m r.low r.high).index_below in
      pair_e (given (low_in (index_of m) i)) (given (high_in (index_of m) i))

  unfoldable pub parts_e : EstP (parts_of x).v
  unfolding parts_of mul_f64_add_e const_e f64_add_e log2_dd from_bit_pair of_bits
  parts_e = let d = mul_f64_add_e (const_e log2_dd) w_e l_e in f64_add_e d.hi (pair_e d.lo z_e)

  unfoldable pub summed_e : EstP (summed_of x)
  unfolding summed_of parts_of parts_e log_poly_e sum_e f64_add_e
  summed_e =
      let v = parts_e in
      let p = log_poly_e z_e in
      f64_add_e v.hi (pair_e (sum_e v.lo p.lo) p.hi)

  unfoldable pub log_dTo_dd_e : EstP (fast_log_dTo_dd x)
  unfolding fast_log_dTo_dd summed_of summed_e exact_add_e
  log_dTo_dd_e = exact_add_e summed_e.hi summed_e.lo

-- ---- the logarithm of a pair

pub share_in : (x : DoubleDouble) (p : EstP x) → T (within (over_e p.lo p.hi).bound share_b) → In (log_lo x) share_b
unfolding log_lo point of_bits
share_in x p t =
    let four = of_bits binary64 0x4010_0000_0000_0000 in
    by_test_lem share_b (le x.hi (of_bits binary64 0x7fd0_0000_0000_0000) || (le four x.lo || le x.lo (neg four)))
    (λ u. widen share_b t (over_e p.lo p.hi).holds) (λ u. widen share_b tt (point (of_bits binary64 0)).holds)

unfoldable pub log_dd_e : {d : Depth} (x : DoubleDouble) (r : Reached d x.hi) → In (log_lo x) share_b → EstP (fast_log_dd x)
unfolding fast_log_dd parts_of parts_e log_poly_e sum_e f64_add_e
log_dd_e x r h =
    let v = parts_e x.hi r in
    let p = log_poly_e (z_e x.hi r) in
    f64_add_e v.hi (pair_e (sum_e (sum_e v.lo p.lo) (given h)) p.hi)
