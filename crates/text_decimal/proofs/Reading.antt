-- Digits read as one number: those of one text behind another, and those that were written, which have no 0 in front. Assumes nothing.
use mathlib.Core.Path.{◌≡◌, refl, sym, ap, ◌∙◌}
use mathlib.Core.Bool.{Bool, true, false, ◌&&◌}
use Prim.Native.Nat.{ℕ, zero, suc, ◌+◌, ◌-◌, ◌*◌, ◌/◌, ◌%◌, ◌^◌, ◌≤◌, ◌<◌}
use mathlib.Core.List.{List, [], ◌∷◌, ◌++◌}
use native.Mathlib.Nat.{mul_assoc, pow-suc, pow-succ', mod-eq_of_lt, one-le-pow, le-div_iff_mul-le, div-lt_iff_lt-mul}
use native.Mathlib.Omega.{arith}
use borrow.Author.Tests.{lt-ltb, le-leb, ne_eqb}
use lib.Arith.{mod-mul}
use lib.Dec.{leb, ltb, eqb}
use Rattle.facts.proofs.Orders.{by_order}
use Rattle.text_digits.specs.Hex.{glyph_of, digits, or_more, places_in, places_of, decimal_digits}
use Rattle.text_digits.proofs.Counting.{places_one, places_turn, places_hold, places_least}
use Rattle.text_decimal.proofs.FirstDigit.{digits_front}
use Rattle.text_decimal.specs.Meaning.{are_digits, number_from, is_lean, ends_in_zero}

-- ---- the code of a digit

pub glyph_is : (d : ℕ) → d < 10 → glyph_of d ≡ 48 + d
unfolding glyph_of
glyph_is d h = rw (lt-ltb d 10 h)

-- every number has a digit
places_some : (most n : ℕ) → 0 < places_in 10 most n
unfolding places_in or_more
places_some zero n = omega arith
places_some (suc most) n =
    by_order 10 n
    (λ h. rw (places_turn 10 most n h) (omega arith))
    (λ h. rw (places_one 10 (suc most) n h) (omega arith))

-- ---- one text behind another

pub number_append : (n : ℕ) (xs ys : List ℕ) → number_from n (xs ++ ys) ≡ number_from (number_from n xs) ys
unfolding number_from
number_append n [] ys = refl
number_append n (c ∷ xs) ys = number_append (n * 10 + (c - 48)) xs ys

digits_append : (xs ys : List ℕ) → are_digits xs ≡ true → are_digits ys ≡ true → are_digits (xs ++ ys) ≡ true
unfolding are_digits
digits_append [] ys h k = k
digits_append (c ∷ xs) ys h k = go (leb 48 c && ltb c 58) (are_digits xs) h (λ e. digits_append xs ys e k)
  where
    go : (a b : Bool) → a && b ≡ true → (b ≡ true → are_digits (xs ++ ys) ≡ true) → a && are_digits (xs ++ ys) ≡ true
    go true true e f = f refl
    go true false e f = f e
    go false b e f = e

pub last_zero : (xs : List ℕ) (c : ℕ) → ends_in_zero (xs ++ (c ∷ [])) ≡ eqb c 48
unfolding ends_in_zero
last_zero [] c = refl
last_zero (x ∷ []) c = refl
last_zero (x ∷ y ∷ xs) c = last_zero (y ∷ xs) c

-- ---- written digits

pub digits_are : (k n : ℕ) → are_digits (digits 10 k n) ≡ true
unfolding digits are_digits
digits_are zero n = refl
digits_are (suc k) n = digits_append (digits 10 k (n / 10)) (glyph_of (n % 10) ∷ []) (digits_are k (n / 10)) one
  where
    one : are_digits (glyph_of (n % 10) ∷ []) ≡ true
    one =
        let few : n % 10 < 10 = omega arith in
        rw (glyph_is (n % 10) few, le-leb 48 (48 + n % 10) (omega arith), lt-ltb (48 + n % 10) 58 (omega arith))

pub number_digits : (k v n : ℕ) → number_from n (digits 10 k v) ≡ n * 10 ^ k + v % 10 ^ k
unfolding digits number_from
number_digits zero v n = omega arith
number_digits (suc k) v n =
    let few : v % 10 < 10 = omega arith in
    let code = glyph_is (v % 10) few in
    let front = number_digits k (v / 10) n in
    let power : n * 10 ^ suc k ≡ n * 10 ^ k * 10 = ap (λ (p : ℕ). n * p) (pow-suc 10 k) ∙ sym (mul_assoc n (10 ^ k) 10) in
    let parts : v % 10 ^ suc k ≡ v / 10 % 10 ^ k * 10 + v % 10 =
    ap (λ (p : ℕ). v % p) (pow-suc 10 k) ∙ mod-mul v (one-le-pow k 10 (omega arith)) (omega arith) in
    number_append n (digits 10 k (v / 10)) (glyph_of (v % 10) ∷ []) ∙ rw (front, code) (omega arith)

pub decimal_are : (n : ℕ) → are_digits (decimal_digits n) ≡ true
unfolding decimal_digits
decimal_are n = digits_are (places_of n) n

-- the first of two digits or more is not 0
lean_two : (c d : ℕ) (cs : List ℕ) → (c ≡ 48 → ⊥) → is_lean (c ∷ d ∷ cs) ≡ true
unfolding is_lean
lean_two c d cs h = rw (ne_eqb c 48 h)

pub decimal_lean : (n : ℕ) → is_lean (decimal_digits n) ≡ true
unfolding decimal_digits places_of
decimal_lean n = go (places_in 10 n n) refl
  where
    go : (p : ℕ) → places_in 10 n n ≡ p → is_lean (digits 10 p n) ≡ true
    go zero e = absurd (omega (arith, places_some n n))
    go (suc zero) e = unfold digits is_lean in refl
    go (suc (suc p)) e =
        let some : 0 < n = by_order 1 n (λ h. h) (λ h. absurd (omega (arith, places_one 10 n n (omega arith)))) in
        let least : 10 ^ suc p ≤ n = places_least n n (omega arith) some (suc p) e in
        let first : 0 < n / 10 ^ suc p = (le-div_iff_mul-le (one-le-pow (suc p) 10 (omega arith))).1 (omega arith) in
        let held : n < 10 ^ suc (suc p) = rw e at (places_hold n n (omega arith)) in
        let power = pow-succ' 10 (suc p) in
        let few : n / 10 ^ suc p < 10 = (div-lt_iff_lt-mul (one-le-pow (suc p) 10 (omega arith))).1 (omega arith) in
        let code = glyph_is (n / 10 ^ suc p) few in
        rw (digits_front 10 (suc p) n, digits_front 10 p n, mod-eq_of_lt few)
        (lean_two (glyph_of (n / 10 ^ suc p)) (glyph_of (n / 10 ^ p % 10)) (digits 10 p n) (λ z. omega arith))

pub number_decimal : (n : ℕ) → number_from 0 (decimal_digits n) ≡ n
unfolding decimal_digits places_of
number_decimal n =
    let held : n % 10 ^ places_in 10 n n ≡ n = mod-eq_of_lt (places_hold n n (omega arith)) in
    number_digits (places_in 10 n n) n 0 ∙ omega arith
