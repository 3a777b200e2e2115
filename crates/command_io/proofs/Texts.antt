-- Texts gone over a byte at a time: one turn of each loop, and what its end answers.
-- Assumes nothing.
use Rattle.std.proofs.Common.{◌≡◌, ℕ, ◌+◌, ◌-◌, ◌*◌, ◌<◌, ◌≤◌, Bool, true, false, cond, ltb, List, [], ◌∷◌, length, get_or, drop, refl, ap, ◌∙◌, add-one, arith, drop-cons, ltb-false, Option, Some, None, IfSome}
use lib.Seq.{drop-length}
use Rattle.command_io.specs.Arguments.{is_zero, digit_after, number_from, read_number}
use Rattle.command_io.specs.Numbers.{Read, turn_of, read_from}

-- ---- one number

pub number_next : (most : ℕ) (inside : Bool) (r : Option ℕ) (text : List ℕ) (i : ℕ) → i < length text
    → number_from most inside r (drop i text) ≡ number_from most true (digit_after most inside r (get_or text i 0)) (drop (i + 1) text)
unfolding number_from
number_next most inside r text i h = rw (drop-cons text i 0 h, add-one)

pub number_ends : (most : ℕ) (inside : Bool) (r : Option ℕ) (text : List ℕ) (i : ℕ) → i ≡ length text → number_from most inside r (drop i text) ≡ r
unfolding number_from
number_ends most inside r text i e = let none : drop i text ≡ [] = ap (λ (k : ℕ). drop k text) e ∙ drop-length text in rw none

pub number_empty : (most : ℕ) (text : List ℕ) → length text ≡ 0 → read_number most text ≡ None
unfolding read_number
number_empty most [] e = refl
number_empty most (c ∷ cs) e = absurd (omega arith)

pub number_starts : (most : ℕ) (text : List ℕ) → (length text ≡ 0 → ⊥) → read_number most text ≡ number_from most false (Some 0) text
unfolding read_number
number_starts most [] h = absurd (h refl)
number_starts most (c ∷ cs) h = refl

-- a number with one digit more is at most the largest
digit_below : (most : ℕ) (inside : Bool) (r : Option ℕ) (c n : ℕ) → digit_after most inside r c ≡ Some n → n ≤ most
digit_below most inside (Some k) c n e = go (is_zero inside k) (ltb c 48) (ltb 57 c) (ltb most (k * 10 + (c - 48))) refl e
  where
    go : (z s t u : Bool) → ltb most (k * 10 + (c - 48)) ≡ u
        → cond z None (cond s None (cond t None (cond u None (Some (k * 10 + (c - 48)))))) ≡ Some n → n ≤ most
    go true s t u f e = let z : ◌≡◌ {A = ℕ} 0 1 = cc in absurd (omega arith)
    go false true t u f e = let z : ◌≡◌ {A = ℕ} 0 1 = cc in absurd (omega arith)
    go false false true u f e = let z : ◌≡◌ {A = ℕ} 0 1 = cc in absurd (omega arith)
    go false false false true f e = let z : ◌≡◌ {A = ℕ} 0 1 = cc in absurd (omega arith)
    go false false false false f e = let same : k * 10 + (c - 48) ≡ n = cc in omega (arith, ltb-false most (k * 10 + (c - 48)) f, same)
digit_below most inside None c n e = let z : ◌≡◌ {A = ℕ} 0 1 = cc in absurd (omega arith)

-- a number that was read is at most the largest
below_from : (most : ℕ) (text : List ℕ) (inside : Bool) (r : Option ℕ) (m : ℕ) → ((n : ℕ) → r ≡ Some n → n ≤ most)
    → number_from most inside r text ≡ Some m → m ≤ most
unfolding number_from
below_from most [] inside r m h e = h m e
below_from most (c ∷ cs) inside r m h e = below_from most cs true (digit_after most inside r c) m (digit_below most inside r c) e

number_below : (most : ℕ) (text : List ℕ) (m : ℕ) → read_number most text ≡ Some m → m ≤ most
unfolding read_number
number_below most [] m e = let z : ◌≡◌ {A = ℕ} 0 1 = cc in absurd (omega arith)
number_below most (c ∷ cs) m e =
    below_from most (c ∷ cs) false (Some 0) m (λ n f. let z : 0 ≡ n = cc in omega arith) e

pub number_within : (most : ℕ) (text : List ℕ) → IfSome (read_number most text) (λ n. n ≤ most)
number_within most text = within (read_number most text) refl
  where
    within : (r : Option ℕ) → read_number most text ≡ r → IfSome r (λ n. n ≤ most)
    within (Some n) e = number_below most text n e
    within None e = tt

-- ---- numbers separated by white space

pub read_next : (most : ℕ) (a : Read) (text : List ℕ) (i : ℕ) → i < length text
    → read_from most a (drop i text) ≡ read_from most (turn_of most a (get_or text i 0)) (drop (i + 1) text)
unfolding read_from
read_next most a text i h = rw (drop-cons text i 0 h, add-one)

pub read_ends : (most : ℕ) (a : Read) (text : List ℕ) (i : ℕ) → i ≡ length text → read_from most a (drop i text) ≡ a
unfolding read_from
read_ends most a text i e = let none : drop i text ≡ [] = ap (λ (k : ℕ). drop k text) e ∙ drop-length text in rw none
