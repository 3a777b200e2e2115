-- A pair whose parts lie in two intervals, and what one of two ways gives. Assumes nothing.
use mathlib.Core.Bool.{Bool, true, false, not, ◌&&◌, cond}
use lib.Dec.{T}
use lib.Ieee.{Float}
use lib.Ieee.Fits.{and_l, and_r}
use Rattle.pxfm.specs.declared.double_double.DoubleDouble.{DoubleDouble}
use Rattle.law_bounds.specs.Interval.{Interval, In}
use Rattle.law_bounds.proofs.Arithmetic.{within}
use Rattle.law_bounds.proofs.Operations.{widen}
use Rattle.law_bounds.proofs.Estimate.{EstP, given}

pub record InP (x : DoubleDouble) (l h : Interval) : Type 0 where
  pub lo : In x.lo l
  pub hi : In x.hi h

abbrev pub known : {x : DoubleDouble} {l h : Interval} → InP x l h → EstP x
known p = record { lo = given p.lo; hi = given p.hi }

-- the estimate's two intervals lie in these
abbrev pub within_p : {x : DoubleDouble} → EstP x → Interval → Interval → Bool
within_p p l h = within p.lo.bound l && within p.hi.bound h

pub settle : {x : DoubleDouble} (l h : Interval) (p : EstP x) → T (within_p p l h) → InP x l h
settle l h p t =
    record {
      lo = widen l (and_l (within p.lo.bound l) _ t) p.lo.holds;
      hi = widen h (and_r (within p.lo.bound l) _ t) p.hi.holds;
    }

-- ---- by a test, each way with what the test says on it

pub by_test_lem : {x y : Float} (b : Interval) (c : Bool) → (T c → In x b) → (T (not c) → In y b) → In (cond c x y) b
by_test_lem b true f g = f tt
by_test_lem b false f g = g tt

pub by_test_pair : {x y : DoubleDouble} (l h : Interval) (c : Bool) → (T c → InP x l h) → (T (not c) → InP y l h) → InP (cond c x y) l h
by_test_pair l h true f g = f tt
by_test_pair l h false f g = g tt
