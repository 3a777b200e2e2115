-- The sides, as written out from document 01, are the port's quantile up to 2 (1 apart). Assumes nothing.
use mathlib.Core.Path.{◌≡◌, refl}
use mathlib.Core.Bool.{true, false}
use lib.Dec.{T}
use lib.Ieee.{Float, binary64, fits, lt}
use lib.Ieee.Fits.{add-fits}
use Rattle.pxfm.specs.DoubleDouble.{one, to_f64}
use Rattle.pxfm.specs.Argument.{mirrored_of, core_argument}
use Rattle.pxfm.specs.Inverfc.{middle_of, tail_of, erf_core, sign_of, inverfc_extra_small, central_of}
use Rattle.law_mirror.specs.Sides.{small_side, lower_side, upper_side}
use Rattle.law_mirror.proofs.Sign.{mul_one_is}

pub lower_fits : (x : Float) → T (fits binary64 (lower_side x))
unfolding lower_side to_f64
lower_fits x = add-fits binary64 _ _

pub small_fits : (x : Float) → T (fits binary64 (small_side x))
unfolding small_side to_f64
small_fits x = add-fits binary64 _ _

pub small_side_lem : (x : Float) → to_f64 (inverfc_extra_small x) ≡ small_side x
unfolding inverfc_extra_small small_side
small_side_lem x = refl

pub lower_side_lem : (x : Float) → lt one x ≡ false → central_of x ≡ lower_side x
unfolding central_of sign_of core_argument mirrored_of erf_core middle_of tail_of lower_side
lower_side_lem x h = rw h (mul_one_is _ (lower_fits x))

pub upper_side_lem : (x : Float) → lt one x ≡ true → central_of x ≡ upper_side x
unfolding central_of sign_of core_argument mirrored_of erf_core middle_of tail_of upper_side
upper_side_lem x h = rw h refl
