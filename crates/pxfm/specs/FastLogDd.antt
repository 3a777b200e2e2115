-- Both logarithms of a positive finite argument (document 01, src/logs/fast_log_dd.rs).
-- Significands and exponents are whole numbers; from the reduced argument on, each line is one rounded operation.
use Rattle.std.specs.Prelude.{ℕ, ◌+◌, ◌-◌, ◌*◌, ◌/◌, ◌%◌, ◌^◌, ◌<◌, ◌≤◌, Bool, cond, ◌||◌, ◌==◌, from_bits, nat_le, to_bits, Float}
use Rattle.std.specs.Int.Count.{count_leading_zeros}
use Rattle.std.specs.Float.{binary64}
use Rattle.std.specs.Float.Ieee.{of_int, minus, le, neg, add, mul, div}
use Rattle.log_tables.specs.PowTables.{pow_inverse}
use Rattle.log_tables.specs.LogTable.{fast_log_dd_inv_lo, fast_log_dd_inv_hi}
use Rattle.log_tables.specs.Rows.{entry_at}
use Rattle.pxfm.specs.declared.double_double.DoubleDouble.{DoubleDouble}
use Rattle.pxfm.specs.declared.logs.fast_log_dd.Scaled.{Scaled}
use Rattle.pxfm.specs.declared.logs.fast_log_dd.Parts.{Parts}
use Rattle.pxfm.specs.DoubleDouble.{new_of, one, log2_dd, from_exact_add, f64_add, mul_f64_add}
use Rattle.pxfm.specs.Common.{dd_fmla}
use Rattle.pxfm.specs.PowExec.{half, log_poly1}

-- A significand and the exponent with 1074 added.
abbrev pub scaled : ℕ → ℕ → Scaled
scaled m e = record { m = m; e = e }

-- How far a subnormal's significand is shifted up: its leading zeros less eleven.
abbrev pub shift_of : ℕ → ℕ
shift_of b = count_leading_zeros 64 b - 11

-- The 53-bit significand m and the exponent e of the positive finite double with bit pattern b: it is m / 2 ^ 52 × 2 ^ (e - 1074).
unfoldable pub scaled_of : ℕ → Scaled
scaled_of b =
    cond (b / 2 ^ 52 == 0)
    (scaled (b * 2 ^ shift_of b) (52 - shift_of b))
    (scaled (b % 2 ^ 52 + 2 ^ 52) (b / 2 ^ 52 + 51))

-- What a significand and an exponent are in.
pub record Normal (s : Scaled) : Type 0 where
  pub low : 2 ^ 52 ≤ s.m
  pub high : s.m < 2 ^ 53
  pub top : s.e ≤ 2097

-- Whether m stands for the root of 2 or more, so that t is halved.
abbrev pub halved : ℕ → Bool
halved m = nat_le 0x16a0_9e66_7f3b_cd m

-- What t is multiplied by: 1/2 or 1.
unfoldable pub factor_of : ℕ → Float
factor_of m = cond (halved m) half one

-- What the exponent is raised by.
unfoldable pub carry_of : ℕ → ℕ
carry_of m = cond (halved m) 1 0

-- The place of m in both tables (document 01's index).
unfoldable pub index_of : ℕ → ℕ
index_of m = cond (halved m) (m / 2 ^ 45) (m / 2 ^ 44) - 181

-- The logarithm at a place of its two columns.
abbrev pub fast_log_dd_inv : ℕ → DoubleDouble
fast_log_dd_inv i = new_of (entry_at fast_log_dd_inv_lo i) (entry_at fast_log_dd_inv_hi i)

-- The reduced argument t, from the root of 1/2 up to the root of 2.
unfoldable pub reduced_of : ℕ → Float
reduced_of m = mul binary64 (from_bits binary64 (m % 2 ^ 52 + 0x3ff0_0000_0000_0000)) (factor_of m)

-- The exponent, one more where t is halved, as a double.
unfoldable pub exponent_of : ℕ → ℕ → Float
exponent_of m e = of_int binary64 (minus (e + carry_of m) 1074)

-- What both logarithms of x have in common: z is r × t - 1, and v is e × log 2 + log t up to the polynomial at z.
unfoldable pub parts_of : Float → Parts
parts_of x =
    let s = scaled_of (to_bits binary64 x) in
    let i = index_of s.m in
    let z = dd_fmla (entry_at pow_inverse i) (reduced_of s.m) (neg one) in
    let dt = mul_f64_add log2_dd (exponent_of s.m s.e) (fast_log_dd_inv i) in
    record { v = f64_add dt.hi (new_of dt.lo z); z = z }

-- The logarithm of a double.
unfoldable pub fast_log_dTo_dd : Float → DoubleDouble
fast_log_dTo_dd x =
    let s = parts_of x in
    let p = log_poly1 s.z in
    let w = f64_add s.v.hi (new_of (add binary64 s.v.lo p.lo) p.hi) in
    from_exact_add w.hi w.lo

-- The share of the low part in the logarithm of a pair; 0 where the quotient could underflow without need.
unfoldable pub log_lo : DoubleDouble → Float
log_lo x =
    let four = from_bits binary64 0x4010_0000_0000_0000 in
    cond (le x.hi (from_bits binary64 0x7fd0_0000_0000_0000) || (le four x.lo || le x.lo (neg four)))
    (div binary64 x.lo x.hi)
    (from_bits binary64 0)

-- The logarithm of a pair.
unfoldable pub fast_log_dd : DoubleDouble → DoubleDouble
fast_log_dd x =
    let s = parts_of x.hi in
    let p = log_poly1 s.z in
    f64_add s.v.hi (new_of (add binary64 (add binary64 s.v.lo p.lo) (log_lo x)) p.hi)
