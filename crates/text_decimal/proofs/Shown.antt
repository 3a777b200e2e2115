-- Which doubles are shown, by their pattern; and their text, by its parts. Every double from 2 ^ -8 up to 2 ^ 53 in size is shown, and so is every
-- whole number of 2 ^ -60 below 2 ^ 53. Assumes nothing.
use mathlib.Core.Path.{◌≡◌, refl, sym, ap, ◌∙◌}
use mathlib.Core.Bool.{true, and-false}
use Prim.Native.Nat.{ℕ, zero, suc, ◌+◌, ◌-◌, ◌*◌, ◌/◌, ◌%◌, ◌^◌, ◌≤◌, ◌<◌}
use mathlib.Core.List.{[], ◌∷◌, ◌++◌, append_assoc}
use native.Mathlib.Nat.{mul_assoc, pow-le-pow_right}
use native.Mathlib.Omega.{arith}
use borrow.Author.Tests.{ltb-true, leb-true, le-leb, lt-leb}
use lib.Dec.{leb, ltb}
use lib.Pow.{pow-add}
use lib.Ieee.{Float, binary64, of_bits}
use lib.Ieee.Bits.{of_bits-fits}
use lib.Ieee.Positive.{num, den}
use lib.Ieee.Scale.{finite}
use Rattle.facts.proofs.Tests.{both_hold}
use Rattle.facts.proofs.Orders.{by_order}
use Rattle.text_digits.specs.Hex.{digits, decimal_digits}
use Rattle.text_ticks.specs.Ticks.{in_range}
use Rattle.text_ticks.specs.Text.{minus_sign, point}
use Rattle.text_ticks.proofs.Range.{pattern_in, pattern_out}
use Rattle.text_ticks.proofs.Halving.{pattern_sign}
use Rattle.text_decimal.specs.Decimal.{places_behind, fraction_text, signed_text, most_places, is_shown, exact_text}
use Rattle.text_decimal.specs.Lowest.{IsSize}
use Rattle.text_decimal.proofs.Powers.{base_divides}
use Rattle.text_decimal.proofs.LowestTerms.{places_den, own_parts}
use Rattle.text_decimal.proofs.Behind.{digits_rest}

-- ---- the text of a pattern

-- a dash from 2 ^ 53 on, for the infinities and for the NaN patterns
pub dash_range : (b : ℕ) → 1076 * 2 ^ 52 ≤ b % 2 ^ 63 → minus_sign ∷ [] ≡ exact_text (of_bits binary64 b)
unfolding exact_text is_shown
dash_range b h = rw (pattern_out b h)

-- a dash where there are too many digits behind the point
pub dash_places : (b n k : ℕ) → IsSize (of_bits binary64 b) n k → most_places < k → minus_sign ∷ [] ≡ exact_text (of_bits binary64 b)
unfolding exact_text is_shown
dash_places b n k s h = rw (← s.lower, lt-leb k most_places h, and-false)

pub text_shown : (b n k : ℕ) → b % 2 ^ 63 < 1076 * 2 ^ 52 → IsSize (of_bits binary64 b) n k → k ≤ most_places
    → signed_text (leb (2 ^ 63) b) n k ≡ exact_text (of_bits binary64 b)
unfolding exact_text is_shown
text_shown b n k h s l = rw (pattern_in b h, pattern_sign b h, ← s.lower, ← s.upper, le-leb k most_places l)

-- ---- which doubles are shown

-- no more than 60 digits are behind the point exactly if 2 ^ 60 times the double is whole
few_units : (n k : ℕ) → k ≤ most_places → n * 2 ^ 60 ≡ n * 2 ^ (60 - k) * 2 ^ k
few_units n k h =
    let sum : 60 - k + k ≡ 60 = omega arith in
    ap (λ (j : ℕ). n * 2 ^ j) (sym sum) ∙ ap (λ (p : ℕ). n * p) (pow-add 2 (60 - k) k) ∙ sym (mul_assoc n (2 ^ (60 - k)) (2 ^ k))

units_few : (n k a : ℕ) → (0 < k → n % 2 ≡ 1) → n * 2 ^ 60 ≡ a * 2 ^ k → k ≤ most_places
units_few n k a odd e =
    by_order k most_places (λ h. h) (λ h. absurd (omega (arith, odd (omega arith), base_divides 2 a 60 n k (omega arith) (sym e) h)))

pub shown_in : (x : Float) → is_shown x ≡ true → (finite x ≡ true) × (num x < 2 ^ 53 * den x) × (places_behind x ≤ most_places)
unfolding is_shown in_range
shown_in x h =
    let both = both_hold (in_range x) (leb (places_behind x) most_places) h in
    let in_range_lem = both_hold (finite x) (ltb (num x) (2 ^ 53 * den x)) both.0 in
    (in_range_lem.0, ltb-true (num x) (2 ^ 53 * den x) in_range_lem.1, leb-true (places_behind x) most_places both.1)

in_shown : (x : Float) → in_range x ≡ true → places_behind x ≤ most_places → is_shown x ≡ true
unfolding is_shown
in_shown x h l = rw (h, le-leb (places_behind x) most_places l)

pub shown_units : (x : Float) → is_shown x ≡ true → num x * 2 ^ 60 ≡ num x * 2 ^ (60 - places_behind x) * den x
shown_units x h =
    few_units (num x) (places_behind x) (shown_in x h).2 ∙ ap (λ (d : ℕ). num x * 2 ^ (60 - places_behind x) * d) (sym (places_den x))

module _ (b : ℕ) where
  pub units_shown : (a : ℕ) → in_range (of_bits binary64 b) ≡ true → num (of_bits binary64 b) * 2 ^ 60 ≡ a * den (of_bits binary64 b)
      → is_shown (of_bits binary64 b) ≡ true
  units_shown a h e =
      let x = of_bits binary64 b in
      in_shown x h
      (units_few (num x) (places_behind x) a (λ l. (own_parts x (of_bits-fits binary64 b) l).0) (e ∙ ap (λ (d : ℕ). a * d) (places_den x)))

  -- from 2 ^ -8 on in size every double is
  pub large_shown : in_range (of_bits binary64 b) ≡ true → den (of_bits binary64 b) ≤ 2 ^ 8 * num (of_bits binary64 b) → is_shown (of_bits binary64 b) ≡ true
  large_shown h l =
      let x = of_bits binary64 b in
      in_shown x h
      (by_order (places_behind x) most_places (λ k. k)
      (λ k.
      let few = (own_parts x (of_bits-fits binary64 b) (omega arith)).1 in
      let lower = places_den x in
      let power : 2 ^ 61 ≤ 2 ^ places_behind x = pow-le-pow_right (omega arith) k in
      absurd (omega arith)))

-- ---- the text of a fraction

pub fraction_whole : (m k unit : ℕ) → k ≡ 0 → unit ≡ 2 ^ k → decimal_digits (m / unit) ≡ fraction_text m k
unfolding fraction_text
fraction_whole m k unit z e = rw (e, z) (ap decimal_digits (omega arith))

pub fraction_parts : (m k unit : ℕ) → (k ≡ 0 → ⊥) → unit ≡ 2 ^ k
    → decimal_digits (m / unit) ++ (point ∷ []) ++ digits 10 k (m % unit * 5 ^ k) ≡ fraction_text m k
unfolding fraction_text
fraction_parts m zero unit h e = absurd (h refl)
fraction_parts m (suc k) unit h e =
    append_assoc (decimal_digits (m / unit)) (point ∷ []) (digits 10 (suc k) (m % unit * 5 ^ suc k))
    ∙ rw (e, ← digits_rest m (suc k))
