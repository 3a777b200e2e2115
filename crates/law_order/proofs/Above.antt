-- The pieces of `erf_core` from 0.06 to 0.75 and the tails are above zero: the sum of the parts of each rational's pair. Assumes nothing.
use mathlib.Core.Bool.{Bool, true, false, not, cond}
use Prim.Native.Nat.{◌*◌, ◌^◌}
use lib.Dec.{T}
use lib.Ieee.{Float, binary64, of_bits, le}
use Rattle.pxfm.specs.declared.double_double.DoubleDouble.{DoubleDouble}
use Rattle.pxfm.specs.DoubleDouble.{one, neg_of, full_add_f64, to_f64}
use Rattle.pxfm.specs.FastLogDd.{log_lo}
use Rattle.pxfm.specs.Rationals.{inverf0p06_to0p75}
use Rattle.pxfm.specs.Inverfc.{quick_rational, rounds_alike, middle_of, tail_of, inverfc_extra_small}
use Rattle.law_bounds.specs.Interval.{Interval, between, In}
use Rattle.law_bounds.specs.Ranges.{every, reach_b, share_b, core_low_b}
use Rattle.law_bounds.proofs.Arithmetic.{within}
use Rattle.law_bounds.proofs.Operations.{widen}
use Rattle.law_bounds.proofs.Estimate.{Est, given, to_f64_e}
use Rattle.law_bounds.proofs.Pairs.{InP, known}
use Rattle.law_bounds.proofs.Tests.{below_of_le, below_of_not_le, cap_e, floor_e}
use Rattle.law_bounds.proofs.Rationals.{slow_e, quick_e}
use Rattle.law_bounds.proofs.Tail.{extra_small_in, tail_by}
use Rattle.law_order.specs.Ranges.{above_b}

pub decide : {x : Float} (b : Interval) (p : Est x) → T (within p.bound b) → In x b
decide b p t = widen b t p.holds

pub by_way : (x y : DoubleDouble) (b : Interval) (c : Bool) → (T c → In (to_f64 x) b) → (T (not c) → In (to_f64 y) b) → In (to_f64 (cond c x y)) b
by_way x y b true f g = f tt
by_way x y b false f g = g tt

-- ---- from 0.06 to 0.75, in two parts

abbrev first_b : Interval
first_b = between (2 ^ 1069) (3 * 2 ^ 1071)

abbrev second_b : Interval
second_b = between (3 * 2 ^ 1071) (3 * 2 ^ 1072)

quick_first : (x : DoubleDouble) → InP x core_low_b first_b → In (to_f64 (quick_rational x)) above_b
unfolding quick_e to_f64_e
quick_first x h = decide above_b (to_f64_e (quick_e (known h))) tt

quick_second : (x : DoubleDouble) → InP x core_low_b second_b → In (to_f64 (quick_rational x)) above_b
unfolding quick_e to_f64_e
quick_second x h = decide above_b (to_f64_e (quick_e (known h))) tt

slow_first : (x : DoubleDouble) → InP x core_low_b first_b → In (to_f64 (inverf0p06_to0p75 x)) above_b
unfolding slow_e to_f64_e
slow_first x h = decide above_b (to_f64_e (slow_e (known h))) tt

slow_second : (x : DoubleDouble) → InP x core_low_b second_b → In (to_f64 (inverf0p06_to0p75 x)) above_b
unfolding slow_e to_f64_e
slow_second x h = decide above_b (to_f64_e (slow_e (known h))) tt

-- from 1 / 32 to 3 / 4
abbrev pub mid_b : Interval
mid_b = between (2 ^ 1069) (3 * 2 ^ 1072)

-- 3 / 8
abbrev cut : Float
cut = of_bits binary64 0x3fd8_0000_0000_0000

module _ (x : DoubleDouble) (h : InP x core_low_b mid_b) where
  in_first : T (le x.hi cut) → InP x core_low_b first_b
  unfolding cap_e of_bits
  in_first t = record { lo = h.lo; hi = decide first_b (cap_e cut (below_of_le t) (given h.hi)) tt }

  in_second : T (not (le x.hi cut)) → InP x core_low_b second_b
  unfolding floor_e of_bits
  in_second t = record { lo = h.lo; hi = decide second_b (floor_e cut (below_of_not_le t) (given h.hi)) tt }

  by_part : (P : Type 0) → (InP x core_low_b first_b → P) → (InP x core_low_b second_b → P) → P
  by_part P f g = go (le x.hi cut) (λ t. f (in_first t)) (λ t. g (in_second t))
    where
      go : (b : Bool) → (T b → P) → (T (not b) → P) → P
      go true i j = i tt
      go false i j = j tt

  pub middle_above : In (to_f64 (middle_of x)) above_b
  unfolding middle_of
  middle_above =
      by_way (quick_rational x) (inverf0p06_to0p75 x) above_b (rounds_alike (quick_rational x))
      (λ t. by_part (In (to_f64 (quick_rational x)) above_b) (quick_first x) (quick_second x))
      (λ t. by_part (In (to_f64 (inverf0p06_to0p75 x)) above_b) (slow_first x) (slow_second x))

-- ---- the tails

-- of every double above zero and up to 3 / 8
pub extra_small_above : (x : Float) → In x (reach_b every) → In (to_f64 (inverfc_extra_small x)) above_b
unfolding to_f64_e
extra_small_above x h = decide above_b (to_f64_e (known (extra_small_in every x h))) tt

-- of a pair whose complement's high part lies there, and whose low part is small beside it
pub tail_above : (x : DoubleDouble) → In (full_add_f64 (neg_of x) one).hi (reach_b every) → In (log_lo (full_add_f64 (neg_of x) one)) share_b
    → In (to_f64 (tail_of x)) above_b
unfolding to_f64_e
tail_above x h s = decide above_b (to_f64_e (known (tail_by every x h s))) tt
