-- The quantile's tails: below 0.1 from the logarithm of x itself, and above 0.75 in `erf_core` from that of 1 - x. Assumes nothing.
use lib.Ieee.{Float, binary64, of_bits, lt, le}
use Rattle.pxfm.specs.declared.double_double.DoubleDouble.{DoubleDouble}
use Rattle.pxfm.specs.DoubleDouble.{one, neg_of, full_add_f64}
use Rattle.pxfm.specs.FastLogDd.{fast_log_dTo_dd, log_lo, fast_log_dd}
use Rattle.pxfm.specs.Inverfc.{tail_of, inverfc_extra_small}
use Rattle.law_bounds.specs.Interval.{In}
use Rattle.law_bounds.specs.Ranges.{Depth, usual, deep, every, share_b, reach_b, log_b, log_low_b, tail_b, result_b, result_low_b, upper_b, upper_low_b, less_low_b}
use Rattle.law_bounds.proofs.Operations.{widen}
use Rattle.law_bounds.proofs.Estimate.{point, over_e, neg_pair_e, full_add_e}
use Rattle.law_bounds.proofs.Logarithm.{Reached, summed_of, share_in, summed_e, log_dTo_dd_e, log_dd_e}
use Rattle.law_bounds.proofs.Reach.{reached}
use Rattle.law_bounds.proofs.Pairs.{InP, known, settle}
use Rattle.law_bounds.proofs.Asymptotic.{asymptotic_in}

-- the logarithm of x before it is added up, and after
pub summed_in : (x : Float) → In x (reach_b deep) → InP (summed_of x) log_low_b (log_b deep)
unfolding summed_e
summed_in x h = settle log_low_b (log_b deep) (summed_e x (reached deep x h)) tt

log_in : (d : Depth) (x : Float) → Reached d x → InP (fast_log_dTo_dd x) log_low_b (log_b d)
unfolding log_dTo_dd_e
log_in usual x r = settle log_low_b (log_b usual) (log_dTo_dd_e x r) tt
log_in deep x r = settle log_low_b (log_b deep) (log_dTo_dd_e x r) tt
log_in every x r = settle log_low_b (log_b every) (log_dTo_dd_e x r) tt

pub extra_small_in : (d : Depth) (x : Float) → In x (reach_b d) → InP (inverfc_extra_small x) result_low_b (tail_b d)
unfolding inverfc_extra_small
extra_small_in d x h = asymptotic_in d (fast_log_dTo_dd x) (le (of_bits binary64 0x3f1a_36e2_eb1c_432d) x) (log_in d x (reached d x h))

-- ---- a pair

log_pair_in : (d : Depth) (x : DoubleDouble) → Reached d x.hi → In (log_lo x) share_b → InP (fast_log_dd x) log_low_b (log_b d)
unfolding log_dd_e
log_pair_in usual x r s = settle log_low_b (log_b usual) (log_dd_e x r s) tt
log_pair_in deep x r s = settle log_low_b (log_b deep) (log_dd_e x r s) tt
log_pair_in every x r s = settle log_low_b (log_b every) (log_dd_e x r s) tt

-- where the high part of 1 - x lies at that depth, and the low part is small beside it
pub tail_by : (d : Depth) (x : DoubleDouble) → In (full_add_f64 (neg_of x) one).hi (reach_b d) → In (log_lo (full_add_f64 (neg_of x) one)) share_b
    → InP (tail_of x) result_low_b (tail_b d)
unfolding tail_of
tail_by d x h s =
    asymptotic_in d (fast_log_dd (full_add_f64 (neg_of x) one)) (lt x.hi (of_bits binary64 0x3fef_ff2e_48e8_a71e))
    (log_pair_in d (full_add_f64 (neg_of x) one) (reached d (full_add_f64 (neg_of x) one).hi h) s)

less_in : (x : DoubleDouble) → InP x upper_low_b upper_b → InP (full_add_f64 (neg_of x) one) less_low_b (reach_b usual)
unfolding full_add_e neg_pair_e point of_bits
less_in x h = settle less_low_b (reach_b usual) (full_add_e (neg_pair_e (known h)) (point one)) tt

share : (x : DoubleDouble) → InP x less_low_b (reach_b usual) → In (log_lo x) share_b
unfolding over_e
share x h = share_in x (known h) tt

pub tail_in : (x : DoubleDouble) → InP x upper_low_b upper_b → InP (tail_of x) result_low_b result_b
tail_in x h =
    let l = less_in x h in
    let t = tail_by usual x l.hi (share (full_add_f64 (neg_of x) one) l) in
    record { lo = t.lo; hi = widen result_b tt t.hi }
