-- The reduced argument t of the logarithms, as a number: it is the significand m over 2 ^ 53 where it is halved and over 2 ^ 52 else.
-- The pattern made of m's digits and the exponent's field 1023 stands for m / 2 ^ 52, and a product with 1/2 or 1 rounds nothing.
-- So what holds of the fraction m / `unit_of m` holds of the double t: r × t - 1 is below 1/128 in size,
-- and t lies from the root of 1/2 up to the root of 2. Assumes nothing.
use Rattle.std.proofs.Common.{◌≡◌, ℕ, ◌+◌, ◌-◌, ◌*◌, ◌/◌, ◌%◌, ◌^◌, ◌<◌, ◌≤◌, Bool, true, false, cond, sym, refl, ap, ◌∙◌, subst, lt_of_lt_of_le, mul-le-mul_right, mul_assoc, mul_comm, mul-le-mul, lt_of_mul-lt-mul_right, mul-lt-mul_of_pos_right, mul-pos, mul-one, mul_right_comm, le_of_mul-le-mul_right, arith, lit<, pow_pos, pow_mono, pow-add, shl_lt, leb-false, leb-true}
use native.Mathlib.Nat.{mul-mul-mul_comm}
use lib.Ieee.{Float, binary64, of_bits, mul, round}
use lib.Ieee.Exact.{HasValue, round_exact}
use lib.Ieee.Positive.{num, den, den_pos, value→cross, positive_of_value, mul_at}
use Rattle.double_bits.proofs.Digits.{add_exponents}
use Rattle.double_bits.proofs.Fields.{pattern_mid}
use Rattle.pxfm.specs.DoubleDouble.{one}
use Rattle.log_tables.specs.PowTables.{pow_inverse}
use Rattle.log_tables.specs.Rows.{entry_at}
use Rattle.pxfm.specs.PowExec.{half}
use Rattle.pxfm.specs.FastLogDd.{halved, factor_of, index_of, reduced_of}
use Rattle.pxfm.specs.Bins.{NearOne, AroundOne, unit_of}
use Rattle.pxfm.proofs.Exact.{value_same}
use Rattle.pxfm.proofs.Bins.{reduced_near}

-- The double that is 1 + the digits of m: from 1 up to 2.
abbrev leading : ℕ → Float
leading m = of_bits binary64 (m % 2 ^ 52 + 0x3ff0_0000_0000_0000)

leading_value : (m : ℕ) → 2 ^ 52 ≤ m → m < 2 ^ 53 → HasValue (leading m) false m (2 ^ 52)
leading_value m l h =
    let b = m % 2 ^ 52 + 0x3ff0_0000_0000_0000 in
    let t : b % 2 ^ 52 + 2 ^ 52 ≡ m = omega arith in
    let x : b / 2 ^ 52 - 1 ≡ 1022 = omega arith in
    let v = pattern_mid b (omega arith) (λ (e : b / 2 ^ 52 ≡ 0). absurd (omega arith)) in
    let w : HasValue (leading m) false (m * 2 ^ 1022) (2 ^ 1074) =
    subst (λ (n : ℕ). HasValue (leading m) false (n * 2 ^ 1022) (2 ^ 1074)) t
    (subst (λ (k : ℕ). HasValue (leading m) false ((b % 2 ^ 52 + 2 ^ 52) * 2 ^ k) (2 ^ 1074)) x v) in
    value_same (leading m) false (m * 2 ^ 1022) (2 ^ 1074) m (2 ^ 52) (pow_pos 1074)
    (ap (λ (n : ℕ). n * 2 ^ 1074) (sym (mul-one m)) ∙ add_exponents m 0 1074 1022 52 refl) w

-- A product of x, m / 2 ^ 52, with a power of two is exact.
times_power : (x y : Float) (m i : ℕ) → 0 < m → m < 2 ^ 53 → i ≤ 1 → HasValue x false m (2 ^ 52) → HasValue y false 1 (2 ^ i)
    → HasValue (mul binary64 x y) false m (2 ^ (52 + i))
times_power x y m i M h I v w =
    let p = positive_of_value x m (2 ^ 52) v M in
    let q = positive_of_value y 1 (2 ^ i) w (lit< tt) in
    let e : mul binary64 x y ≡ round binary64 false m (2 ^ (52 + i)) =
    mul_at binary64 x y m (2 ^ 52) 1 (2 ^ i) p q (pow_pos 52) (pow_pos i) v w
    ∙ ap (λ (n : ℕ). round binary64 false n (2 ^ 52 * 2 ^ i)) (mul-one m)
    ∙ ap (λ (n : ℕ). round binary64 false m n) (sym (pow-add 2 52 i)) in
    let k : 1074 ≡ 1022 - i + (52 + i) = omega arith in
    let g : m * 2 ^ 1074 ≡ m * 2 ^ (1022 - i) * 2 ^ (52 + i) =
    ap (λ (n : ℕ). m * 2 ^ n) k ∙ ap (λ (n : ℕ). m * n) (pow-add 2 (1022 - i) (52 + i)) ∙ sym (mul_assoc m (2 ^ (1022 - i)) (2 ^ (52 + i))) in
    let z : 53 + (1022 - i) ≤ 2098 = omega arith in
    let few : m * 2 ^ (1022 - i) < 2 ^ 2098 = lt_of_lt_of_le (shl_lt 53 (1022 - i) h) (pow_mono z) in
    subst (λ (z : Float). HasValue z false m (2 ^ (52 + i))) (sym e)
    (round_exact binary64 false m (2 ^ (52 + i)) m (1022 - i) (pow_pos (52 + i)) h few g)

half_value : HasValue half false 1 (2 ^ 1)
half_value = unfold of_bits in (refl, refl)

one_value : HasValue one false 1 (2 ^ 0)
one_value = unfold of_bits in (refl, refl)

-- The double t is exactly the fraction of which `reduced_near` speaks.
pub reduced_value : (m : ℕ) → 2 ^ 52 ≤ m → m < 2 ^ 53 → HasValue (reduced_of m) false m (unit_of m)
unfolding reduced_of factor_of
reduced_value m l h = go (halved m)
  where
    go : (b : Bool) → HasValue (mul binary64 (leading m) (cond b half one)) false m (cond b (2 ^ 53) (2 ^ 52))
    go true = times_power (leading m) half m 1 (omega arith) h (omega arith) (leading_value m l h) half_value
    go false = times_power (leading m) one m 0 (omega arith) h (omega arith) (leading_value m l h) one_value

-- ---- the rule of the table, for the double itself

-- a * d < b * n is the same of n / d and n' / d'.
cross_lt : (a b n d n' d' : ℕ) → 0 < d' → n' * d ≡ n * d' → a * d < b * n → a * d' < b * n'
cross_lt a b n d n' d' D e h =
    lt_of_mul-lt-mul_right d
    (let p : b * n * d' ≡ b * n' * d = mul_assoc b n d' ∙ ap (λ (z : ℕ). b * z) (sym e) ∙ sym (mul_assoc b n' d) in
    let q : a * d * d' ≡ a * d' * d = mul_right_comm a d d' in
    let r : a * d * d' < b * n * d' = mul-lt-mul_of_pos_right h D in
    omega arith)

cross_gt : (a b n d n' d' : ℕ) → 0 < d' → n' * d ≡ n * d' → b * n < a * d → b * n' < a * d'
cross_gt a b n d n' d' D e h =
    lt_of_mul-lt-mul_right d
    (let p : b * n * d' ≡ b * n' * d = mul_assoc b n d' ∙ ap (λ (z : ℕ). b * z) (sym e) ∙ sym (mul_assoc b n' d) in
    let q : a * d * d' ≡ a * d' * d = mul_right_comm a d d' in
    let r : b * n * d' < a * d * d' = mul-lt-mul_of_pos_right h D in
    omega arith)

-- The rule holds of every way to write the fraction.
near_same : (r : Float) (n d n' d' : ℕ) → 0 < d' → n' * d ≡ n * d' → NearOne r n d → NearOne r n' d'
near_same r n d n' d' D e h =
    let low = cross_lt (127 * den r) (128 * num r) n d n' d' D e (rw (mul_assoc 127 (den r) d, mul_assoc 128 (num r) n) h.above) in
    let high = cross_gt (129 * den r) (128 * num r) n d n' d' D e (rw (mul_assoc 128 (num r) n, mul_assoc 129 (den r) d) h.below) in
    record {
      above = rw (← mul_assoc 127 (den r) d', ← mul_assoc 128 (num r) n') low;
      below = rw (← mul_assoc 128 (num r) n', ← mul_assoc 129 (den r) d') high;
    }

-- For the double t that the code multiplies, r × t - 1 is below 1/128 in size.
pub reduced_double_near : (m : ℕ) → 2 ^ 52 ≤ m → m < 2 ^ 53
    → NearOne (entry_at pow_inverse (index_of m)) (num (reduced_of m)) (den (reduced_of m))
reduced_double_near m l h =
    let t = reduced_of m in
    near_same (entry_at pow_inverse (index_of m)) m (unit_of m) (num t) (den t) (den_pos t)
    (value→cross t m (unit_of m) (reduced_value m l h)) (reduced_near m l h)

-- ---- from the root of 1/2 up to the root of 2

-- t is halved where m / 2 ^ 52 is the root of 2 or more: where its square is 2 or more.
pub halved_root : (m : ℕ) → halved m ≡ true → 2 * (2 ^ 52 * 2 ^ 52) ≤ m * m
halved_root m e =
    let h = leb-true 0x16a0_9e66_7f3b_cd m e in
    let s : 0x16a0_9e66_7f3b_cd * 0x16a0_9e66_7f3b_cd ≤ m * m = mul-le-mul h h in
    omega arith

pub kept_root : (m : ℕ) → halved m ≡ false → m * m < 2 * (2 ^ 52 * 2 ^ 52)
kept_root m e =
    let h = leb-false 0x16a0_9e66_7f3b_cd m e in
    let k : m ≤ 0x16a0_9e66_7f3b_cc = omega arith in
    let s : m * m ≤ 0x16a0_9e66_7f3b_cc * 0x16a0_9e66_7f3b_cc = mul-le-mul k k in
    omega arith

fraction_range : (m : ℕ) → 2 ^ 52 ≤ m → m < 2 ^ 53 → AroundOne m (unit_of m)
fraction_range m l h = go (halved m) (halved_root m) (kept_root m)
  where
    low : 2 ^ 52 * 2 ^ 52 ≤ m * m
    low = mul-le-mul l l

    high : m * m ≤ 2 ^ 53 * 2 ^ 53
    high = let k : m ≤ 2 ^ 53 = omega arith in mul-le-mul k k

    go : (b : Bool) → (b ≡ true → 2 * (2 ^ 52 * 2 ^ 52) ≤ m * m) → (b ≡ false → m * m < 2 * (2 ^ 52 * 2 ^ 52))
        → AroundOne m (cond b (2 ^ 53) (2 ^ 52))
    go true y n = let k = y refl in let g = high in record { from = omega arith; to = omega arith }
    go false y n = let k = n refl in let g = low in record { from = omega arith; to = omega arith }

-- It holds of every way to write the fraction.
around_same : (n d n' d' : ℕ) → 0 < d → 0 < d' → n' * d ≡ n * d' → AroundOne n d → AroundOne n' d'
around_same n d n' d' D D' e h =
    let s : n' * n' * (d * d) ≡ n * n * (d' * d') =
    mul-mul-mul_comm n' n' d d ∙ ap (λ (z : ℕ). z * z) e ∙ mul-mul-mul_comm n d' n d' in
    let a = mul-le-mul_right (d' * d') h.from in
    let b = mul-lt-mul_of_pos_right h.to (mul-pos D' D') in
    let c : d * d * (d' * d') ≡ d' * d' * (d * d) = mul_comm (d * d) (d' * d') in
    let p = mul_assoc 2 (n * n) (d' * d') in
    let q = mul_assoc 2 (d * d) (d' * d') in
    let p' = mul_assoc 2 (n' * n') (d * d) in
    let q' = mul_assoc 2 (d' * d') (d * d) in
    let low : d' * d' * (d * d) ≤ 2 * (n' * n') * (d * d) = omega arith in
    let high : n' * n' * (d * d) < 2 * (d' * d') * (d * d) = omega arith in
    record { from = le_of_mul-le-mul_right low (mul-pos D D); to = lt_of_mul-lt-mul_right (d * d) high }

-- The double t lies from the root of 1/2 up to the root of 2.
pub reduced_range : (m : ℕ) → 2 ^ 52 ≤ m → m < 2 ^ 53 → AroundOne (num (reduced_of m)) (den (reduced_of m))
reduced_range m l h =
    let t = reduced_of m in
    around_same m (unit_of m) (num t) (den t) (unit_pos (halved m)) (den_pos t) (value→cross t m (unit_of m) (reduced_value m l h)) (fraction_range m l h)
  where
    unit_pos : (b : Bool) → 0 < cond b (2 ^ 53) (2 ^ 52)
    unit_pos true = pow_pos 53
    unit_pos false = pow_pos 52
