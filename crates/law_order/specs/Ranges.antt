-- Where the pairs lie that `erf_core` is given, and what it gives, in units of the smallest double: 1 is 2 ^ 1074. Definitions only.
use Rattle.std.specs.Prelude.{◌-◌, ◌*◌, ◌^◌, true, T}
use Rattle.std.specs.Float.{binary64}
use Rattle.std.specs.Float.Ieee.{fits}
use Rattle.pxfm.specs.declared.double_double.DoubleDouble.{DoubleDouble}
use Rattle.law_bounds.specs.Interval.{Interval, between, about, In}

-- above zero, and at most 64
abbrev pub above_b : Interval
above_b = between 1 (2 ^ 1080)

-- a zero, of either sign
abbrev pub zero_b : Interval
zero_b = about true 0

-- ---- the pairs that `erf_core` is given

-- from 2 ^ -53 to 1 - 2 ^ -53
abbrev pub inside_b : Interval
inside_b = between (2 ^ 1021) (2 ^ 1074 - 2 ^ 1021)

-- a pair whose low part is zero
pub record Plain (d : DoubleDouble) : Type 0 where
  pub double : T (fits binary64 d.hi)
  pub lo : In d.lo zero_b
  pub hi : In d.hi inside_b

-- from 1 / 4 to 15 / 16, for pairs with a small low part
abbrev pub rough_b : Interval
rough_b = between (2 ^ 1072) (15 * 2 ^ 1070)
