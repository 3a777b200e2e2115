-- What the patterns of doubles above zero, below 2 and below an infinity say of their numbers of units, and the other way round.
-- Assumes nothing.
use Rattle.std.proofs.Common.{◌≡◌, ℕ, ◌+◌, ◌-◌, ◌*◌, ◌/◌, ◌^◌, ◌<◌, ◌≤◌, Bool, true, false, T, sym, le_trans, le_of_eq, lt_of_lt_of_le, mul-pos, one-mul, lt_of_not-le, le-div_iff_mul-le, arith, pow_pos, pow_mono, pow-add, shl_lt}
use lib.Ieee.{Float, nan, inf, fin, binary64, size, fits, to_bits}
use lib.Ieee.Digits.{size-le, size_reaches}
use lib.Ieee.Exact.{HasValue}
use lib.Ieee.Fits.{kept-lt}
use Rattle.double_bits.proofs.Digits.{size_above}
use Rattle.double_bits.proofs.Patterns.{pattern, bits_of_units}
use Rattle.pxfm.proofs.Value.{Gap, Val}
use Rattle.pxfm.proofs.Units.{in_units}

-- x is above zero, and finite.
abbrev pub PositiveBits : Float → Type 0
PositiveBits x = (0 < to_bits binary64 x) × (to_bits binary64 x < 0x7ff0_0000_0000_0000)

positive_of_units : (x : Float) (a : ℕ) → HasValue x false a (2 ^ 1074) → 0 < a → a < 2 ^ 2098 → PositiveBits x
positive_of_units x a h A B =
    let e = bits_of_units binary64 x false a h in
    let z : 0 < size a = size_above 0 a A in
    let k = size a - 53 in
    let lo : 2 ^ k ≤ a = size_reaches a k (omega arith) in
    let first : 1 ≤ a / 2 ^ k = (le-div_iff_mul-le (pow_pos k)).1 (rw one-mul lo) in
    let hi : a / 2 ^ k < 2 ^ 53 = kept-lt 53 a in
    let s : size a ≤ 2098 = size-le a 2098 B in
    rw e (omega arith)

pub positive_bits : {x : Float} {p n : ℕ} (j k : ℕ) → k + j ≤ 2098 → Val binary64 x p n j → n < p → p < n + 2 ^ k → PositiveBits x
positive_bits {x = x} {p = p} {n = n} j k r v l h = go v.sign v.val v.gap
  where
    -- These three stand over variables: `omega` refuses the numeral 2 ^ 1074.
    size_below : (a p n b : ℕ) → a + n ≡ p → p < n + b → a < b
    size_below a p n b e h = omega arith

    size_positive : (a p n : ℕ) → a + n ≡ p → n < p → 0 < a
    size_positive a p n e h = omega arith

    not_negative : (a p n : ℕ) → a + p ≡ n → n < p → ⊥
    not_negative a p n e h = omega arith

    go : (s : Bool) → HasValue x s (v.mag * 2 ^ j) (2 ^ 1074) → Gap s v.mag p n → PositiveBits x
    go false w g =
        let b = shl_lt k j (size_below v.mag p n (2 ^ k) g h) in
        positive_of_units x (v.mag * 2 ^ j) w (mul-pos (size_positive v.mag p n g l) (pow_pos j)) (lt_of_lt_of_le b (pow_mono r))
    go true w g = absurd (not_negative v.mag p n g l)

-- x is not negative, and below 2.
pub record BelowTwo (x : Float) : Type 0 where
  pub a : ℕ
  pub val : HasValue x false a (2 ^ 1074)
  pub high : a < 2 ^ 1075

pub bits_below_two : (x : Float) → T (fits binary64 x) → to_bits binary64 x < 0x4000_0000_0000_0000 → BelowTwo x
unfolding to_bits
bits_below_two nan f h = absurd (omega arith)
bits_below_two (inf true) f h = absurd (omega arith)
bits_below_two (inf false) f h = absurd (omega arith)
bits_below_two (fin true m e) f h = absurd (omega arith)
bits_below_two (fin false m e) f h =
    let c = in_units false m e f in
    let a = m * 2 ^ c.w in
    record { a = a; val = c.val; high = lt_of_not-le (λ g. from_two a g (rw (bits_of_units binary64 (fin false m e) false a c.val) at h)) }
  where
    from_two : (a : ℕ) → 2 ^ 1075 ≤ a → pattern binary64 false a < 0x4000_0000_0000_0000 → ⊥
    from_two a g h =
        let z : 1075 < size a = size_above 1075 a g in
        let k = size a - 53 in
        let lo : 2 ^ (52 + k) ≤ a = size_reaches a (52 + k) (omega arith) in
        let q : 2 ^ 52 ≤ a / 2 ^ k = (le-div_iff_mul-le (pow_pos k)).1 (le_trans (le_of_eq (sym (pow-add 2 52 k))) lo) in
        omega arith

pub below_two_bits : (x : Float) → BelowTwo x → to_bits binary64 x < 0x4000_0000_0000_0000
below_two_bits x u =
    let k = size u.a - 53 in
    let s : size u.a ≤ 1075 = size-le u.a 1075 u.high in
    let first : u.a / 2 ^ k < 2 ^ 53 = kept-lt 53 u.a in
    rw (bits_of_units binary64 x false u.a u.val) (omega arith)
