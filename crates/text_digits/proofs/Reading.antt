-- Laws of reading, over the width: one turn of the loop that reads, and how large a number is.
-- Assumes nothing.
use Prim.Native.Nat.{ℕ, zero, suc, ◌+◌, ◌-◌, ◌*◌, ◌^◌, ◌≤◌, ◌<◌}
use mathlib.Core.Path.{◌≡◌, refl, sym, ◌∙◌}
use mathlib.Core.List.{List}
use native.Mathlib.Nat.{pow-suc, pow-succ', pow-le-pow_right, mul_assoc, mul-le-mul_right}
use native.Mathlib.Numerals.{add-one}
use native.Mathlib.Omega.{arith}
use borrow.Author.Tests.{lt-ltb, le-ltb, le-leb, lt-leb}
use lib.ListN.{length, get_or}
use Rattle.facts.proofs.Orders.{by_order}
use Rattle.text_digits.specs.Hex.{digit_of, after_digit, read_digits, read_hex}
use Rattle.std.specs.Prelude.{Option, Some, None, Ok, Err}
use Rattle.text_digits.specs.declared.read.HexError.TheVariants as H

-- a byte is a digit below 16, or none
pub digit_cases {ℓ} : (c : ℕ) (P : Option ℕ → Type ℓ) → ((d : ℕ) → d < 16 → P (Some d)) → P None → P (digit_of c)
unfolding digit_of
digit_cases c P value other =
    by_order 48 c
    (λ a. by_order 58 c
    (λ b. by_order 97 c
    (λ d. by_order 103 c
    (λ e. rw (le-ltb c 48 a, le-ltb c 58 b, le-ltb c 97 d, le-ltb c 103 e) other)
    (λ e. rw (le-ltb c 48 a, le-ltb c 58 b, le-ltb c 97 d, lt-ltb c 103 e) (value (c - 87) (omega arith))))
    (λ d. rw (le-ltb c 48 a, le-ltb c 58 b, lt-ltb c 97 d) other))
    (λ b. rw (le-ltb c 48 a, lt-ltb c 58 b) (value (c - 48) (omega arith))))
    (λ a. rw (lt-ltb c 48 a) other)

-- a digit's value is below 16
pub digit_below : (c d : ℕ) → digit_of c ≡ Some d → d < 16
digit_below c d =
    digit_cases c (λ r. r ≡ Some d → d < 16) (λ v h e. let same : v ≡ d = cc in omega arith)
    (λ e. let z : ◌≡◌ {A = ℕ} 0 1 = cc in omega arith)

-- a turn that reads
pub read_turn : (k : ℕ) (s : List ℕ) (place n d : ℕ) → digit_of (get_or s place 0) ≡ Some d
    → read_digits (suc k) s place n ≡ read_digits k s (place + 1) (n * 16 + d)
unfolding read_digits after_digit
read_turn k s place n d e = rw (e, after_digit)

-- the same where what is left falls by one
pub read_next : (left less : ℕ) (s : List ℕ) (place n d : ℕ) → left ≡ less + 1 → digit_of (get_or s place 0) ≡ Some d
    → read_digits left s place n ≡ read_digits less s (place + 1) (n * 16 + d)
read_next left less s place n d l e = rw (l, add-one) (read_turn less s place n d e)

-- a turn that refuses
pub read_refused : (left : ℕ) (s : List ℕ) (place n : ℕ) → 0 < left → digit_of (get_or s place 0) ≡ None
    → read_digits left s place n ≡ Err (H.NoDigit place)
unfolding read_digits after_digit
read_refused zero s place n l e = absurd (omega arith)
read_refused (suc k) s place n l e = rw (e, after_digit)

-- where no digit is left, the number stands
pub read_done : (left : ℕ) (s : List ℕ) (place n : ℕ) → left ≡ 0 → read_digits left s place n ≡ Ok n
unfolding read_digits
read_done left s place n z = rw z

-- a number that was read fits its digits
pub read_below : (k : ℕ) (s : List ℕ) (place n v : ℕ) → read_digits k s place n ≡ Ok v → v < (n + 1) * 16 ^ k
unfolding read_digits
read_below zero s place n v e = let same : n ≡ v = cc in omega arith
read_below (suc k) s place n v e =
    go (λ d t. read_below k s (place + 1) (n * 16 + d) v (sym (read_turn k s place n d t) ∙ e)) (digit_of (get_or s place 0)) refl
  where
    grow : (d : ℕ) → d < 16 → v < (n * 16 + d + 1) * 16 ^ k → v < (n + 1) * 16 ^ suc k
    grow d h b =
        let most : n * 16 + d + 1 ≤ (n + 1) * 16 = omega arith in
        let scaled = mul-le-mul_right (16 ^ k) most in
        rw (pow-succ', ← mul_assoc) (omega arith)

    go : ((d : ℕ) → digit_of (get_or s place 0) ≡ Some d → v < (n * 16 + d + 1) * 16 ^ k)
        → (r : Option ℕ) → digit_of (get_or s place 0) ≡ r → v < (n + 1) * 16 ^ suc k
    go rest (Some d) t = grow d (digit_below (get_or s place 0) d t) (rest d t)
    go rest None t =
        let z : ◌≡◌ {A = ℕ} 0 1 = cc (read_refused (suc k) s place n (omega arith) t) in
        absurd (omega arith)

-- the same of reading with its tests
pub read_hex_below : (s : List ℕ) (place width v : ℕ) → read_hex s place width ≡ Ok v → v < 16 ^ width
unfolding read_hex
read_hex_below s place width v e =
    by_order width 16
    (λ a. by_order (place + width) (length s)
    (λ b.
    let read : read_digits width s place 0 ≡ Ok v = rw (le-ltb 16 width a, le-leb (place + width) (length s) b) at e in
    let below = read_below width s place 0 v read in
    omega arith)
    (λ b.
    let short : Err H.Short ≡ Ok v = rw (le-ltb 16 width a, lt-leb (place + width) (length s) b) at e in
    let z : ◌≡◌ {A = ℕ} 0 1 = cc in
    absurd (omega arith)))
    (λ a.
    let wide : Err H.TooWide ≡ Ok v = rw (lt-ltb 16 width a) at e in
    let z : ◌≡◌ {A = ℕ} 0 1 = cc in
    absurd (omega arith))

-- with one more digit the number still fits its digits, and a u64
pub record Grown (place at n d : ℕ) : Type 0 where
  pub within : n * 16 + d < 16 ^ (at + 1 - place)
  pub small : n * 16 + d < 2 ^ 64

pub grown : (place at n d : ℕ) → place ≤ at → at < place + 16 → n < 16 ^ (at - place) → d < 16 → Grown place at n d
grown place at n d l m h e =
    let one : at + 1 - place ≡ suc (at - place) = omega arith in
    let power : 16 ^ (at + 1 - place) ≡ 16 ^ (at - place) * 16 = rw (one, pow-suc) in
    let most : at + 1 - place ≤ 16 = omega arith in
    let top : 16 ^ (at + 1 - place) ≤ 16 ^ 16 = pow-le-pow_right (omega arith) most in
    record { within = omega arith; small = omega arith }
