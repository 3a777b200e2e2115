-- The text is the only one: of a double there is one exact decimal with no 0 in front of the whole number and none at the end. Assumes nothing.
use mathlib.Core.Path.{◌≡◌, sym, ap, ap₂, ◌∙◌}
use mathlib.Core.Bool.{true, cond}
use Prim.Native.Nat.{ℕ, ◌*◌, ◌/◌, ◌%◌, ◌^◌, ◌<◌}
use mathlib.Core.List.{List, [], ◌∷◌, ◌++◌}
use native.Mathlib.Nat.{eq_of_mul-eq-mul_right, one-le-pow}
use native.Mathlib.Omega.{arith}
use lib.ListN.{length}
use lib.Ieee.{Float, binary64, of_bits}
use lib.Ieee.Positive.{num, den, den_pos}
use Rattle.facts.proofs.Orders.{by_order}
use Rattle.text_digits.specs.Hex.{digits}
use Rattle.text_ticks.specs.Ticks.{minus_of}
use Rattle.text_ticks.specs.Text.{minus_sign}
use Rattle.text_decimal.specs.Decimal.{is_shown, exact_text}
use Rattle.text_decimal.specs.Meaning.{number_from, pointed, IsExact}
use Rattle.text_decimal.proofs.Powers.{crossed, base_divides}
use Rattle.text_decimal.proofs.Reading.{number_append}
use Rattle.text_decimal.proofs.Numerals.{lean_same, last_some, number_upper, behind_back}
use Rattle.text_decimal.proofs.Exactly.{exact_text_lem}

-- two texts of x: their numbers are as the powers of ten
module _ (x : Float) (t s : List ℕ) (e : IsExact x t) (f : IsExact x s) where
  tens_crossed : number_from 0 (e.whole ++ e.behind) * 10 ^ length f.behind ≡ number_from 0 (f.whole ++ f.behind) * 10 ^ length e.behind
  tens_crossed = crossed (num x) (den x) _ _ _ _ (den_pos x) e.value f.value

  no_longer : length e.behind < length f.behind → ⊥
  no_longer h =
      last_some (number_from 0 f.whole) f.behind f.behind_digits f.last (omega arith)
      (ap (λ (a : ℕ). a % 10) (sym (number_append 0 f.whole f.behind)) ∙ base_divides 10 _ _ _ _ (omega arith) tens_crossed h)

-- one double has one exact text
pub exact_same : (x : Float) (t s : List ℕ) → IsExact x t → IsExact x s → t ≡ s
exact_same x t s e f =
    let size : length e.behind ≡ length f.behind =
    by_order (length e.behind) (length f.behind)
    (λ a. by_order (length f.behind) (length e.behind) (λ b. omega arith) (λ b. absurd (no_longer x t s e f b)))
    (λ a. absurd (no_longer x s t f e a)) in
    let power = 10 ^ length f.behind in
    let n : ℕ = number_from 0 (e.whole ++ e.behind) in
    let m : ℕ = number_from 0 (f.whole ++ f.behind) in
    let number : n ≡ m =
    eq_of_mul-eq-mul_right power (one-le-pow (length f.behind) 10 (omega arith)) n m (tens_crossed x t s e f ∙ ap (λ (k : ℕ). m * 10 ^ k) size) in
    let digit : e.behind ≡ f.behind =
    behind_back e.whole e.behind e.behind_digits ∙ ap₂ (digits 10) size number ∙ sym (behind_back f.whole f.behind f.behind_digits) in
    let upper : number_from 0 e.whole ≡ number_from 0 f.whole =
    sym (number_upper e.whole e.behind e.behind_digits) ∙ ap₂ (λ (a k : ℕ). a / 10 ^ k) number size
    ∙ number_upper f.whole f.behind f.behind_digits in
    let whole = lean_same e.whole f.whole e.whole_digits f.whole_digits e.front f.front upper in
    e.parts ∙ ap₂ (λ (w b : List ℕ). cond (minus_of x) (minus_sign ∷ []) [] ++ (w ++ pointed b)) whole digit ∙ sym f.parts

-- and a pattern that is shown has its own
pub exact_only : (b : ℕ) (t : List ℕ) → is_shown (of_bits binary64 b) ≡ true → IsExact (of_bits binary64 b) t → t ≡ exact_text (of_bits binary64 b)
exact_only b t h e = exact_same (of_bits binary64 b) t (exact_text (of_bits binary64 b)) e (exact_text_lem b h)
