-- The text of a double that is shown is the double, no more and no less: its digits make m * 5 ^ k, and the last of k behind the point is not 0.
-- Assumes nothing.
use mathlib.Core.Path.{◌≡◌, refl, sym, ap, ◌∙◌}
use mathlib.Core.Bool.{true, false}
use Prim.Native.Nat.{ℕ, zero, suc, ◌+◌, ◌*◌, ◌/◌, ◌%◌, ◌^◌, ◌<◌}
use mathlib.Core.List.{[], ◌∷◌, ◌++◌, append-nil}
use native.Mathlib.Nat.{mul_assoc, mul_comm, pow-suc, div-add-mod', add-mul-mod_self_right}
use native.Mathlib.Omega.{arith}
use borrow.Author.Tests.{ne_eqb}
use lib.Ieee.{Float, binary64, of_bits}
use lib.Ieee.Bits.{of_bits-fits}
use lib.Ieee.Positive.{num, den}
use lib.Ieee.Scale.{finite}
use Rattle.text_digits.specs.Hex.{glyph_of, digits, decimal_digits}
use Rattle.text_digits.proofs.Writing.{length_digits}
use Rattle.text_decimal.proofs.FirstDigit.{digits_front}
use Rattle.text_ticks.specs.Ticks.{minus_of}
use Rattle.text_ticks.specs.Text.{point}
use Rattle.text_decimal.specs.Decimal.{places_behind, fraction_text, signed_text, is_shown, exact_text}
use Rattle.text_decimal.specs.Meaning.{are_digits, number_from, ends_in_zero, pointed, IsExact}
use Rattle.text_decimal.proofs.LowestTerms.{places_den, own_parts}
use Rattle.text_decimal.proofs.Behind.{tens, whole_tens}
use Rattle.text_decimal.proofs.Shown.{shown_in}
use Rattle.text_decimal.proofs.Reading.{glyph_is, number_append, last_zero, digits_are, decimal_are, decimal_lean, number_digits, number_decimal}

-- ---- the last digit

-- fives leave an odd number odd
odd_fives : (m k : ℕ) → m % 2 ≡ 1 → m * 5 ^ k % 2 ≡ 1
odd_fives m zero h = omega arith
odd_fives m (suc k) h =
    let n : ℕ = m * 5 ^ k in
    let power : m * 5 ^ suc k ≡ n * 5 = ap (λ (p : ℕ). m * p) (pow-suc 5 k) ∙ sym (mul_assoc m (5 ^ k) 5) in
    let parts : n * 5 ≡ n + n * 2 * 2 = omega arith in
    ap (λ (a : ℕ). a % 2) (power ∙ parts) ∙ add-mul-mod_self_right n (n * 2) 2 ∙ odd_fives m k h

-- an odd number does not end in 0
odd_last : (k v : ℕ) → v % 2 ≡ 1 → ends_in_zero (digits 10 (suc k) v) ≡ false
unfolding digits
odd_last k v h =
    let few : v % 10 < 10 = omega arith in
    let code = glyph_is (v % 10) few in
    last_zero (digits 10 k (v / 10)) (glyph_of (v % 10)) ∙ ne_eqb (glyph_of (v % 10)) 48 (λ e. omega arith)

-- digits that are there stand behind a point
pointed_digits : (k v : ℕ) → pointed (digits 10 (suc k) v) ≡ point ∷ digits 10 (suc k) v
unfolding pointed
pointed_digits k v = rw (digits_front 10 k v)

-- ---- the number

-- all digits make m * 5 ^ k
number_whole : (m k : ℕ) → number_from 0 (decimal_digits (m / 2 ^ k) ++ digits 10 k (m * 5 ^ k)) ≡ m * 5 ^ k
number_whole m k =
    number_append 0 (decimal_digits (m / 2 ^ k)) (digits 10 k (m * 5 ^ k))
    ∙ ap (λ (n : ℕ). number_from n (digits 10 k (m * 5 ^ k))) (number_decimal (m / 2 ^ k) ∙ sym (whole_tens m k))
    ∙ number_digits k (m * 5 ^ k) (m * 5 ^ k / 10 ^ k) ∙ div-add-mod' (m * 5 ^ k) (10 ^ k)

-- which is m / 2 ^ k times 10 ^ k
number_exact : (m k : ℕ) → m * 5 ^ k * 2 ^ k ≡ m * 10 ^ k
number_exact m k = mul_assoc m (5 ^ k) (2 ^ k) ∙ ap (λ (p : ℕ). m * p) (mul_comm (5 ^ k) (2 ^ k) ∙ sym (tens k))

-- ---- the text

module _ (x : Float) (there : finite x ≡ true) where
  whole_exact : places_behind x ≡ 0 → IsExact x (signed_text (minus_of x) (num x) 0)
  unfolding signed_text fraction_text pointed
  whole_exact z =
      let one : den x ≡ 1 = places_den x ∙ ap (λ (k : ℕ). 2 ^ k) z in
      let none = append-nil (decimal_digits (num x)) in
      record {
        is_finite = there;
        whole = decimal_digits (num x);
        behind = [];
        parts = rw none;
        whole_digits = decimal_are (num x);
        behind_digits = unfold are_digits in refl;
        front = decimal_lean (num x);
        last = unfold ends_in_zero in refl;
        value = rw (none, one, number_decimal (num x));
      }

  behind_exact : (k : ℕ) → places_behind x ≡ suc k → num x % 2 ≡ 1 → IsExact x (signed_text (minus_of x) (num x) (suc k))
  unfolding signed_text fraction_text
  behind_exact k e odd =
      let m : ℕ = num x in
      let v : ℕ = m * 5 ^ suc k in
      let w : ℕ = m / 2 ^ suc k in
      let lower : den x ≡ 2 ^ suc k = places_den x ∙ ap (λ (j : ℕ). 2 ^ j) e in
      record {
        is_finite = there;
        whole = decimal_digits w;
        behind = digits 10 (suc k) v;
        parts = rw (pointed_digits k v);
        whole_digits = decimal_are w;
        behind_digits = digits_are (suc k) v;
        front = decimal_lean w;
        last = odd_last k v (odd_fives m (suc k) odd);
        value = rw (number_whole m (suc k), lower, length_digits 10 (suc k) v) (number_exact m (suc k));
      }

-- the text of a pattern that is shown
pub exact_text_lem : (b : ℕ) → is_shown (of_bits binary64 b) ≡ true → IsExact (of_bits binary64 b) (exact_text (of_bits binary64 b))
unfolding exact_text
exact_text_lem b h = rw h (go (places_behind (of_bits binary64 b)) refl (shown_in (of_bits binary64 b) h).0)
  where
    go : (k : ℕ) → places_behind (of_bits binary64 b) ≡ k → finite (of_bits binary64 b) ≡ true
        → IsExact (of_bits binary64 b) (signed_text (minus_of (of_bits binary64 b)) (num (of_bits binary64 b)) k)
    go zero e f = whole_exact (of_bits binary64 b) f e
    go (suc k) e f = behind_exact (of_bits binary64 b) f k e (own_parts (of_bits binary64 b) (of_bits-fits binary64 b) (omega arith)).0
