-- Numerals: digits make a number, and it them; with no 0 in front the number alone tells them, and one that does not end in 0 is no multiple of ten.
-- Assumes nothing.
use mathlib.Core.Path.{◌≡◌, refl, sym, ap, ◌∙◌}
use mathlib.Core.Bool.{true, false, ◌&&◌}
use Prim.Native.Nat.{ℕ, suc, ◌+◌, ◌-◌, ◌*◌, ◌/◌, ◌%◌, ◌^◌, ◌≤◌, ◌<◌}
use mathlib.Core.List.{List, [], ◌∷◌, ◌++◌}
use native.Mathlib.Nat.{mul_assoc, add-mul, mul-le-mul_right, pow-succ', pow-le-pow_right}
use native.Mathlib.Omega.{arith}
use borrow.Author.Tests.{leb-true, ltb-true, not-true, eqb-false}
use lib.Arith.{digits_div}
use lib.Dec.{leb, ltb, eqb}
use lib.ListN.{length}
use Rattle.facts.proofs.Tests.{both_hold}
use Rattle.facts.proofs.Orders.{by_order}
use Rattle.text_digits.specs.Hex.{glyph_of, digits}
use Rattle.text_decimal.proofs.FirstDigit.{digits_front}
use Rattle.text_decimal.specs.Meaning.{are_digits, number_from, is_lean, ends_in_zero}
use Rattle.text_decimal.proofs.Reading.{glyph_is, number_append}

-- ---- digits make a number, and it them

-- the first of some digits, and the others
record First (c : ℕ) (cs : List ℕ) : Type 0 where
  least : 48 ≤ c
  most : c < 58
  others : are_digits cs ≡ true

first_digit : (c : ℕ) (cs : List ℕ) → are_digits (c ∷ cs) ≡ true → First c cs
unfolding are_digits
first_digit c cs h =
    let all = both_hold (leb 48 c && ltb c 58) (are_digits cs) h in
    let ends = both_hold (leb 48 c) (ltb c 58) all.0 in
    record { least = leb-true 48 c ends.0; most = ltb-true c 58 ends.1; others = all.1 }

-- what stands before them counts 10 for each
number_behind : (n : ℕ) (cs : List ℕ) → are_digits cs ≡ true → (number_from n cs ≡ n * 10 ^ length cs + number_from 0 cs) × (number_from 0 cs < 10 ^ length cs)
unfolding number_from
number_behind n [] h = (omega arith, omega arith)
number_behind n (c ∷ cs) h =
    let first = first_digit c cs h in
    let least = first.least in
    let most = first.most in
    let d : ℕ = c - 48 in
    let p : ℕ = 10 ^ length cs in
    let one = number_behind (n * 10 + d) cs first.others in
    let none = number_behind (0 * 10 + d) cs first.others in
    let power : 10 ^ suc (length cs) ≡ 10 * p = pow-succ' 10 (length cs) in
    let spread : (n * 10 + d) * p ≡ n * 10 ^ suc (length cs) + d * p =
    add-mul (n * 10) d p ∙ ap (λ (q : ℕ). q + d * p) (mul_assoc n 10 p ∙ ap (λ (q : ℕ). n * q) (sym power)) in
    let zero-ten : (0 * 10 + d) * p ≡ d * p = ap (λ (q : ℕ). q * p) (omega arith) in
    let nine : d * p ≤ 9 * p = mul-le-mul_right p (omega arith) in
    (omega (arith, one, none), omega (arith, none))

-- digits are those of the number that they make, whatever stands before them
digits_back : (n : ℕ) (cs : List ℕ) → are_digits cs ≡ true → cs ≡ digits 10 (length cs) (number_from n cs)
unfolding number_from
digits_back n [] h = unfold digits in refl
digits_back n (c ∷ cs) h =
    let first = first_digit c cs h in
    let least = first.least in
    let most = first.most in
    let d : ℕ = c - 48 in
    let k : ℕ = length cs in
    let v : ℕ = number_from (n * 10 + d) cs in
    let parts = number_behind (n * 10 + d) cs first.others in
    let upper : v / 10 ^ k ≡ n * 10 + d = ap (λ (q : ℕ). q / 10 ^ k) parts.0 ∙ digits_div (n * 10 + d) parts.1 in
    let digit : v / 10 ^ k % 10 ≡ d = omega arith in
    let code : glyph_of d ≡ c = glyph_is d (omega arith) ∙ omega arith in
    sym (digits_front 10 k v ∙ rw (digit, code, ← digits_back (n * 10 + d) cs first.others))

-- ---- the whole number

-- two digits or more with no 0 in front
lean_least : (c d : ℕ) (cs : List ℕ) → are_digits (c ∷ d ∷ cs) ≡ true → is_lean (c ∷ d ∷ cs) ≡ true → 10 ^ suc (length cs) ≤ number_from 0 (c ∷ d ∷ cs)
unfolding number_from is_lean
lean_least c d cs h l =
    let first = first_digit c (d ∷ cs) h in
    let least = first.least in
    let parts = (number_behind (0 * 10 + (c - 48)) (d ∷ cs) first.others).0 in
    let some : 1 ≤ c - 48 = not_below c least (eqb-false c 48 (not-true (eqb c 48) l)) in
    let more : 1 * 10 ^ suc (length cs) ≤ (0 * 10 + (c - 48)) * 10 ^ suc (length cs) = mul-le-mul_right (10 ^ suc (length cs)) (omega arith) in
    omega (arith, parts)
  where
    not_below : (c : ℕ) → 48 ≤ c → (c ≡ 48 → ⊥) → 1 ≤ c - 48
    not_below c h n = by_order 1 (c - 48) (λ k. k) (λ k. absurd (n (omega arith)))

-- of two that make one number neither is longer
lean_longer : (w v : List ℕ) → are_digits w ≡ true → are_digits v ≡ true → is_lean w ≡ true → is_lean v ≡ true → number_from 0 w ≡ number_from 0 v
    → length w < length v → ⊥
lean_longer w [] p q l m e h = omega arith
lean_longer [] (c ∷ []) p q l m e h = unfold is_lean in (let z : ◌≡◌ {A = ℕ} 0 1 = cc in omega arith)
lean_longer (b ∷ w) (c ∷ []) p q l m e h = omega arith
lean_longer w (c ∷ d ∷ cs) p q l m e h =
    let least = lean_least c d cs q m in
    let most = (number_behind 0 w p).1 in
    let power : 10 ^ length w ≤ 10 ^ suc (length cs) = pow-le-pow_right (omega arith) (omega arith) in
    omega arith

-- so the number alone tells them
pub lean_same : (w v : List ℕ) → are_digits w ≡ true → are_digits v ≡ true → is_lean w ≡ true → is_lean v ≡ true → number_from 0 w ≡ number_from 0 v → w ≡ v
lean_same w v p q l m e =
    let size : length w ≡ length v =
    by_order (length w) (length v)
    (λ a. by_order (length v) (length w) (λ b. omega arith) (λ b. absurd (lean_longer w v p q l m e b)))
    (λ a. absurd (lean_longer v w q p m l (sym e) a)) in
    digits_back 0 w p ∙ rw (size, e) (sym (digits_back 0 v q))

-- ---- the digits behind the point

-- where the last is not 0, ten does not divide
pub last_some : (n : ℕ) (cs : List ℕ) → are_digits cs ≡ true → ends_in_zero cs ≡ false → 0 < length cs → number_from n cs % 10 ≡ 0 → ⊥
unfolding number_from ends_in_zero
last_some n [] h l k z = omega arith
last_some n (c ∷ []) h l k z =
    let first = first_digit c [] h in
    let least = first.least in
    let most = first.most in
    eqb-false c 48 l (omega arith)
last_some n (c ∷ d ∷ cs) h l k z = last_some (n * 10 + (c - 48)) (d ∷ cs) (first_digit c (d ∷ cs) h).others l (omega arith) z

-- ---- digits behind others

-- what the others make
pub number_upper : (w cs : List ℕ) → are_digits cs ≡ true → number_from 0 (w ++ cs) / 10 ^ length cs ≡ number_from 0 w
number_upper w cs h =
    let parts = number_behind (number_from 0 w) cs h in
    ap (λ (n : ℕ). n / 10 ^ length cs) (number_append 0 w cs ∙ parts.0) ∙ digits_div (number_from 0 w) parts.1

-- and those behind
pub behind_back : (w cs : List ℕ) → are_digits cs ≡ true → cs ≡ digits 10 (length cs) (number_from 0 (w ++ cs))
behind_back w cs h = digits_back (number_from 0 w) cs h ∙ ap (digits 10 (length cs)) (sym (number_append 0 w cs))
