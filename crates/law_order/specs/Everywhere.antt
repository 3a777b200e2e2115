-- The quantile at every double, in the order of document 01's sentence on src/err/inverfc.rs: "±0 gives +infinity; 2 gives -infinity; other negatives,
-- above 2 and NaN give NaN; 1 gives +0". Each is said both ways, as are the answers elsewhere, numbers with their sign. Definitions only.
use Rattle.std.specs.Prelude.{◌≤◌, ◌<◌, ◌≡◌, ◌⊎◌, true, false, Float}
use Rattle.std.specs.Float.{nan, inf, binary64}
use Rattle.std.specs.Float.Ieee.{of_bits, to_bits}
use Rattle.pxfm.specs.DoubleDouble.{one, two}
use Rattle.pxfm.specs.Argument.{zero}
use Rattle.pxfm.specs.Inverfc.{f_erfcinv}
use Rattle.law_order.specs.Order.{Below, Finite, sign_bit}

-- the answer is as said exactly at such an x: nowhere else, and at every one
pub record Exactly (answer place : Type 0) : Type 0 where
  pub only : answer → place
  pub there : place → answer

-- the double -0
abbrev pub minus_zero : Float
minus_zero = of_bits binary64 sign_bit

-- a finite number above zero, its sign bit clear; and one below zero, its sign bit set
pub record Positive (y : Float) : Type 0 where
  pub number : Finite y
  pub above : Below zero y
  pub clear : to_bits binary64 y < sign_bit

pub record Negative (y : Float) : Type 0 where
  pub number : Finite y
  pub below : Below y zero
  pub set : sign_bit ≤ to_bits binary64 y

-- `inf false` is +infinity, `inf true` -infinity, `zero` is +0; below zero are -infinity and every negative number but -0.
pub record QuantileEverywhere (x : Float) : Type 0 where
  pub infinity : Exactly (f_erfcinv x ≡ inf false) ((x ≡ zero) ⊎ (x ≡ minus_zero))
  pub minus_infinity : Exactly (f_erfcinv x ≡ inf true) (x ≡ two)
  pub none : Exactly (f_erfcinv x ≡ nan) (Below x zero ⊎ (Below two x ⊎ (x ≡ nan)))
  pub nothing : Exactly (f_erfcinv x ≡ zero) (x ≡ one)
  pub positive : Exactly (Positive (f_erfcinv x)) (Below zero x × Below x one)
  pub negative : Exactly (Negative (f_erfcinv x)) (Below one x × Below x two)
