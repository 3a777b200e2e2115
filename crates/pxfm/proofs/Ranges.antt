-- The doubles between 0.1 and 2 in the units that they are multiples of, and the constants they are compared with:
-- from 0.1 to 0.5 in units of 2 ^ -56, from 0.5 to 1 in units of 2 ^ -53, from 1 to 2 in twice those. The tests of the code
-- bound the number of smallest doubles, and from such a bound on the double is a multiple. 2 ^ j smallest doubles are
-- 2 ^ (j - 1074), so j is 1018 for 2 ^ -56 and 1021 for 2 ^ -53. Assumes nothing.
use Rattle.std.proofs.Common.{◌≡◌, ℕ, ◌+◌, ◌*◌, ◌^◌, ◌<◌, ◌≤◌, true, false, not, T, sym, refl, ap, ◌∙◌, le_trans, le_of_eq, lt_of_le_of_lt, mul_assoc, lt_of_mul-lt-mul_right, zero-mul, le_of_mul-le-mul_right, arith, pow_pos, pow-add}
use lib.Ieee.{Float, nan, inf, fin, binary64, of_bits, fits, lt, le}
use lib.Ieee.Exact.{HasValue}
use Rattle.pxfm.specs.DoubleDouble.{one, two}
use Rattle.pxfm.specs.Argument.{zero, tenth, three_quarters}
use Rattle.pxfm.proofs.Value.{Val}
use Rattle.pxfm.proofs.Units.{in_units, units_multiple, val_of_units, val_whole, val_whole_negative}
use Rattle.pxfm.proofs.Order.{val_of_lt, val_of_not_lt, val_of_not_le}
use Rattle.pxfm.proofs.Bits.{BelowTwo}

-- ---- the constants, in any unit that divides them

pub zero_val : (j : ℕ) → Val binary64 zero 0 0 j
unfolding of_bits
zero_val j = record { sign = false; mag = 0; val = (refl, sym (ap (λ (z : ℕ). z * 1) (zero-mul (2 ^ j)))); gap = refl }

power_val : (x : Float) (m i j k : ℕ) → HasValue x false (m * 2 ^ k) (2 ^ 1074) → k ≡ i + j → Val binary64 x (m * 2 ^ i) 0 j
power_val x m i j k h e =
    val_of_units (m * 2 ^ i) j h (ap (λ (z : ℕ). m * 2 ^ z) e ∙ ap (λ (z : ℕ). m * z) (pow-add 2 i j) ∙ sym (mul_assoc m (2 ^ i) (2 ^ j)))

pub one_val : (i j : ℕ) → 1074 ≡ i + j → Val binary64 one (1 * 2 ^ i) 0 j
unfolding of_bits
one_val i j e = power_val one 1 i j 1074 (refl, refl) e

pub two_val : (i j : ℕ) → 1075 ≡ i + j → Val binary64 two (1 * 2 ^ i) 0 j
unfolding of_bits
two_val i j e = power_val two 1 i j 1075 (refl, refl) e

three_quarters_val : (i j : ℕ) → 1072 ≡ i + j → Val binary64 three_quarters (3 * 2 ^ i) 0 j
unfolding of_bits
three_quarters_val i j e = power_val three_quarters 3 i j 1072 (refl, refl) e

-- The double 0.1 in units of 2 ^ -56.
abbrev pub tenth_units : ℕ
tenth_units = 7205759403792794

pub tenth_val : (i j : ℕ) → 1018 ≡ i + j → Val binary64 tenth (tenth_units * 2 ^ i) 0 j
unfolding of_bits
tenth_val i j e = power_val tenth tenth_units i j 1018 (refl, refl) e

-- ---- comparisons of two values that are not negative, over variables: `omega` refuses the numeral 2 ^ 1074

le_plain : {a b : ℕ} → a + 0 ≤ b + 0 → a ≤ b
le_plain h = omega arith

lt_plain : {a b : ℕ} → a + 0 < b + 0 → a < b
lt_plain h = omega arith

-- ---- from 0.1 to 0.5

-- x is a units of 2 ^ -56.
pub record LowerHalf (x : Float) : Type 0 where
  pub a : ℕ
  pub val : Val binary64 x a 0 1018
  pub from : tenth_units ≤ a
  pub to : a < 2 ^ 55

pub lower_half : (x : Float) → T (fits binary64 x) → (u : BelowTwo x) → T (not (lt x tenth)) → u.a < 2 ^ 1073 → LowerHalf x
lower_half x f u nl h =
    let b = tenth_above (2 ^ 1018) u.a (val_of_not_lt (val_whole u.val) (tenth_val 1018 0 refl) nl) in
    let g = units_multiple 1018 x false u.a f u.val b in
    let v = val_of_units g.0 1018 u.val g.1 in
    let c : g.0 * 2 ^ 1018 < 2 ^ 55 * 2 ^ 1018 = lt_of_le_of_lt (le_of_eq (sym g.1)) h in
    record { a = g.0; val = v; from = le_plain (val_of_not_lt v (tenth_val 0 1018 refl) nl); to = lt_of_mul-lt-mul_right (2 ^ 1018) c }
  where
    tenth_above : (u a : ℕ) → tenth_units * u + 0 ≤ a + 0 → 2 ^ 52 * u ≤ a
    tenth_above u a h = omega arith

-- ---- from 0.5 to 1

-- x is a units of 2 ^ -53.
pub record UpperHalf (x : Float) : Type 0 where
  pub a : ℕ
  pub val : Val binary64 x a 0 1021
  pub from : 2 ^ 52 ≤ a
  pub to : a < 2 ^ 53

pub upper_half : (x : Float) (a : ℕ) → T (fits binary64 x) → HasValue x false a (2 ^ 1074) → 2 ^ 1073 ≤ a → T (lt x one) → UpperHalf x
upper_half x a f h b l =
    let g = units_multiple 1021 x false a f h b in
    let v = val_of_units g.0 1021 h g.1 in
    let c : 2 ^ 52 * 2 ^ 1021 ≤ g.0 * 2 ^ 1021 = le_trans b (le_of_eq g.1) in
    record { a = g.0; val = v; from = le_of_mul-le-mul_right c (pow_pos 1021); to = lt_plain (val_of_lt v (one_val 53 1021 refl) l) }

-- ---- from 1 to 2

-- x is 2 * a units of 2 ^ -53.
pub record AboveOne (x : Float) : Type 0 where
  pub a : ℕ
  pub val : Val binary64 x (2 * a) 0 1021
  pub from : 2 ^ 52 < a
  pub to : a < 2 ^ 53

pub above_one : (x : Float) → T (fits binary64 x) → BelowTwo x → T (lt one x) → AboveOne x
above_one x f u l =
    let b = one_above (2 ^ 1022) u.a (val_of_lt (one_val 1074 0 refl) (val_whole u.val) l) in
    let g = units_multiple 1022 x false u.a f u.val b in
    let v = val_of_units (2 * g.0) 1021 u.val (g.1 ∙ double g.0 (2 ^ 1021)) in
    let c : g.0 * 2 ^ 1022 < 2 ^ 53 * 2 ^ 1022 = lt_of_le_of_lt (le_of_eq (sym g.1)) u.high in
    record { a = g.0; val = v; from = half (val_of_lt (one_val 53 1021 refl) v l); to = lt_of_mul-lt-mul_right (2 ^ 1022) c }
  where
    one_above : (u a : ℕ) → 2 ^ 52 * u + 0 < a + 0 → 2 ^ 52 * u ≤ a
    one_above u a h = omega arith

    double : (q u : ℕ) → q * (2 * u) ≡ 2 * q * u
    double q u = omega arith

    half : {q : ℕ} → 2 ^ 53 + 0 < 2 * q + 0 → 2 ^ 52 < q
    half h = omega arith

-- ---- from 0.75 to 1, by the tests on the way to the logarithm

-- x is a units of 2 ^ -53.
pub record UpperQuarter (x : Float) : Type 0 where
  pub a : ℕ
  pub val : Val binary64 x a 0 1021
  pub from : 3 * 2 ^ 51 < a
  pub to : a < 2 ^ 53

pub upper_quarter : (x : Float) → T (fits binary64 x) → T (lt x one) → T (not (le x three_quarters)) → UpperQuarter x
upper_quarter nan f l nl = unfold lt in absurd l
upper_quarter (inf true) f l nl = unfold le of_bits in absurd nl
upper_quarter (inf false) f l nl = unfold lt of_bits in absurd l
upper_quarter (fin true m e) f l nl =
    let c = in_units true m e f in
    absurd (never (3 * 2 ^ 1072) (m * 2 ^ c.w) (val_of_not_le (val_whole_negative c.val) (three_quarters_val 1072 0 refl) nl))
  where
    never : (u a : ℕ) → u + a < 0 + 0 → ⊥
    never u a h = omega arith
upper_quarter (fin false m e) f l nl =
    let c = in_units false m e f in
    let a = m * 2 ^ c.w in
    let b = half_above (2 ^ 1072) a (val_of_not_le (val_whole c.val) (three_quarters_val 1072 0 refl) nl) in
    let h = upper_half (fin false m e) a f c.val b l in
    record { a = h.a; val = h.val; from = lt_plain (val_of_not_le h.val (three_quarters_val 51 1021 refl) nl); to = h.to }
  where
    half_above : (u a : ℕ) → 3 * u + 0 < a + 0 → 2 * u ≤ a
    half_above u a h = omega arith
