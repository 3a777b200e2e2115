-- The functions whose argument has a range, for every argument: a pair of NaN outside of it.
-- The comparison with the Rust calls these; the quantile calls the functions themselves, inside their range.
use Rattle.std.specs.Prelude.{Bool, cond, ◌&&◌, nat_lt, to_bits, Float}
use Rattle.std.specs.Float.{binary64}
use Rattle.std.specs.Float.Ieee.{lt}
use Rattle.pxfm.specs.declared.double_double.DoubleDouble.{DoubleDouble}
use Rattle.pxfm.specs.DoubleDouble.{nan_pair, one}
use Rattle.pxfm.specs.FastLogDd.{fast_log_dd, fast_log_dTo_dd}
use Rattle.pxfm.specs.Inverfc.{erf_core}

-- x is positive and finite: its bit pattern lies between that of 0 and that of the infinity.
unfoldable pub positive_finite : Float → Bool
positive_finite x = nat_lt 0 (to_bits binary64 x) && nat_lt (to_bits binary64 x) 0x7ff0_0000_0000_0000

-- The logarithm of a pair with a positive finite high part.
unfoldable pub checked_log_dd : DoubleDouble → DoubleDouble
checked_log_dd x = cond (positive_finite x.hi) (fast_log_dd x) nan_pair

-- The logarithm of a positive finite double.
unfoldable pub checked_log_dTo_dd : Float → DoubleDouble
checked_log_dTo_dd x = cond (positive_finite x) (fast_log_dTo_dd x) nan_pair

-- The inverse error function of a pair with a high part below 1.
unfoldable pub checked_erf_core : DoubleDouble → DoubleDouble
checked_erf_core x = cond (lt x.hi one) (erf_core x) nan_pair
