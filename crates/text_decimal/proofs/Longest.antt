-- How long the text of a double is: 63 bytes hold it. It has at most 53 binary digits, so that with more than 45 of them behind the point at most three
-- decimal ones are before it, and one with more than 58; -2 ^ -60 needs all 63 (`longest`, Examples). Assumes nothing.
use mathlib.Core.Path.{◌≡◌, refl}
use mathlib.Core.Bool.{Bool, true, false, cond}
use mathlib.Core.List.{[], ◌∷◌}
use Prim.Native.Nat.{ℕ, zero, suc, ◌+◌, ◌*◌, ◌/◌, ◌^◌, ◌≤◌, ◌<◌}
use native.Mathlib.Nat.{div-lt_iff_lt-mul, mul-le-mul_left, pow-le-pow_right}
use native.Mathlib.Omega.{arith}
use lib.Dec.{T}
use lib.ListN.{length, length-append}
use lib.Pow.{pow_pos}
use lib.Ieee.{Float, binary64, fits}
use lib.Ieee.Positive.{num}
use Rattle.facts.proofs.Orders.{by_order}
use Rattle.text_digits.specs.Hex.{digits, decimal_digits}
use Rattle.text_digits.proofs.Counting.{decimal_most}
use Rattle.text_digits.proofs.Writing.{length_digits}
use Rattle.text_ticks.specs.Ticks.{minus_of}
use Rattle.text_ticks.specs.Text.{minus_sign, point}
use Rattle.text_decimal.specs.Decimal.{places_behind, fraction_text, signed_text, most_places, is_shown, exact_text, max_text}
use Rattle.text_decimal.proofs.LowestTerms.{places_den, own_parts}
use Rattle.text_decimal.proofs.Shown.{shown_in}

-- the digits before the point, with so many binary ones behind it
before_most : (m k i j : ℕ) → 0 < j → m < 2 ^ 53 → 2 ^ 53 ≤ 10 ^ j * 2 ^ i → i ≤ k → length (decimal_digits (m / 2 ^ k)) ≤ j
before_most m k i j pos h l b =
    let power : 2 ^ i ≤ 2 ^ k = pow-le-pow_right (omega arith) b in
    let more = mul-le-mul_left (10 ^ j) power in
    decimal_most j (m / 2 ^ k) pos ((div-lt_iff_lt-mul (pow_pos k)).1 (omega arith))

behind_most : (m k : ℕ) → m < 2 ^ 53 → k ≤ most_places → length (decimal_digits (m / 2 ^ k)) + k ≤ 61
behind_most m k h l =
    by_order k 45 (λ a. omega (arith, before_most m k 0 16 (omega arith) h (omega arith) (omega arith)))
    (λ a.
    by_order k 58 (λ b. omega (arith, before_most m k 46 3 (omega arith) h (omega arith) a))
    (λ b. omega (arith, before_most m k 59 1 (omega arith) h (omega arith) b)))

fraction_most : (m k : ℕ) → m < 2 ^ 53 → k ≤ most_places → length (fraction_text m k) ≤ 62
unfolding fraction_text
fraction_most m zero h l = omega (arith, decimal_most 16 m (omega arith) (omega arith))
fraction_most m (suc k) h l =
    rw (length-append (decimal_digits (m / 2 ^ suc k)) (point ∷ digits 10 (suc k) (m * 5 ^ suc k)))
    (omega (arith, behind_most m (suc k) h l, length_digits 10 (suc k) (m * 5 ^ suc k)))

signed_most : (s : Bool) (m k : ℕ) → length (fraction_text m k) ≤ 62 → length (signed_text s m k) ≤ max_text
unfolding signed_text
signed_most true m k h = omega arith
signed_most false m k h = omega arith

-- of a double below 2 ^ 53 that is a whole number the numerator is that number
few_digits : (x : Float) (k : ℕ) → T (fits binary64 x) → places_behind x ≡ k → num x < 2 ^ 53 * 2 ^ k → num x < 2 ^ 53
few_digits x zero f e h = omega arith
few_digits x (suc k) f e h = (own_parts x f (omega arith)).1

shown_most : (x : Float) → T (fits binary64 x) → is_shown x ≡ true → length (signed_text (minus_of x) (num x) (places_behind x)) ≤ max_text
shown_most x f h =
    let told = shown_in x h in
    signed_most (minus_of x) (num x) (places_behind x)
    (fraction_most (num x) (places_behind x) (few_digits x (places_behind x) f refl (rw (places_den x) at told.1)) told.2)

pub exact_text_most : (x : Float) → T (fits binary64 x) → length (exact_text x) ≤ max_text
unfolding exact_text
exact_text_most x f = go (is_shown x) refl
  where
    go : (t : Bool) → is_shown x ≡ t → length (cond t (signed_text (minus_of x) (num x) (places_behind x)) (minus_sign ∷ [])) ≤ max_text
    go true e = shown_most x f e
    go false e = omega arith
