-- Times copied out of the bytes one by one, and mean and spread of what was copied: of as many as a record may have all, of more none, and then
-- there is no mean and spread. Assumes nothing.
use mathlib.Core.Path.{◌≡◌, refl, sym, ap, ap₂, ◌∙◌}
use Prim.Native.Nat.{ℕ, zero, suc, ◌+◌, ◌*◌, ◌≤◌, ◌<◌}
use mathlib.Core.List.{List, [], ◌∷◌, ◌++◌}
use mathlib.Core.Bool.{true, false, cond}
use native.Mathlib.Omega.{arith}
use native.Mathlib.Numerals.{add-one}
use lib.ListN.{length, take, set}
use lib.Seq.{take-suc-set}
use lib.Dec.{leb}
use borrow.Author.Tests.{le-leb, lt-leb}
use Rattle.facts.proofs.Orders.{by_order}
use Rattle.limit.specs.Times.{min_count, max_count, in_range, times_in_range}
use Rattle.limit.specs.Limit.{moments_of_times}
use Rattle.journal_spec.specs.Bytes.{number_at, numbers_in}
use Rattle.journal.proofs.Equal.{length_numbers}

-- ---- the copy

-- one more number
numbers_snoc : (n at : ℕ) (b : List ℕ) → numbers_in 4 (suc n) at b ≡ numbers_in 4 n at b ++ number_at 4 (at + n * 4) b ∷ []
unfolding numbers_in
numbers_snoc zero at b = let e : at ≡ at + 0 * 4 = omega arith in ap (λ (p : ℕ). number_at 4 p b ∷ []) e
numbers_snoc (suc n) at b =
    let e : at + 4 + n * 4 ≡ at + suc n * 4 = omega arith in
    ap (λ (xs : List ℕ). number_at 4 at b ∷ xs) (numbers_snoc n (at + 4) b ∙ ap (λ (p : ℕ). numbers_in 4 n (at + 4) b ++ number_at 4 p b ∷ []) e)

-- a turn of the loop that copies
pub copied_more : (b : List ℕ) (first : ℕ) (ticks : List ℕ) (i x : ℕ) → i < length ticks → x ≡ number_at 4 (first + i * 4) b
    → take i ticks ≡ numbers_in 4 i first b → take (i + 1) (set ticks i x) ≡ numbers_in 4 (i + 1) first b
copied_more b first ticks i x h e k =
    let those : take (i + 1) (set ticks i x) ≡ take i ticks ++ x ∷ [] = rw add-one (take-suc-set ticks i x h) in
    those ∙ ap₂ (λ (xs : List ℕ) (y : ℕ). xs ++ y ∷ []) k e ∙ sym (rw add-one (numbers_snoc i first b))

-- ---- mean and spread

-- what is copied is no more than there is, and no more than a record may have
pub copied_most : (count n : ℕ) → n ≡ cond (leb count max_count) count 0 → (n ≤ count) × (n ≤ max_count)
copied_most count n e =
    by_order count max_count
    (λ h. let all : n ≡ count = e ∙ rw (le-leb count max_count h) refl in (omega arith, omega arith))
    (λ h. let none : n ≡ 0 = e ∙ rw (lt-leb count max_count h) refl in (omega arith, omega arith))

-- more times than a record may have are refused as none are
too_many : (form count first : ℕ) (b : List ℕ) → max_count < count
    → moments_of_times form (numbers_in 4 0 first b) ≡ moments_of_times form (numbers_in 4 count first b)
unfolding moments_of_times times_in_range in_range numbers_in
too_many form count first b h =
    let above : leb (length (numbers_in 4 count first b)) max_count ≡ false = rw (length_numbers 4 count first b) (lt-leb count max_count h) in
    let least : leb min_count (length (numbers_in 4 count first b)) ≡ true =
    rw (length_numbers 4 count first b) (le-leb min_count count (omega arith)) in
    rw (least, above) refl

pub moments_copied : (read form count first n : ℕ) (b xs : List ℕ) → read ≡ form → n ≡ cond (leb count max_count) count 0
    → xs ≡ numbers_in 4 n first b → moments_of_times read xs ≡ moments_of_times form (numbers_in 4 count first b)
moments_copied read form count first n b xs same e is =
    rw same
    (by_order count max_count
    (λ h.
    let all : n ≡ count = e ∙ rw (le-leb count max_count h) refl in
    ap (moments_of_times form) (is ∙ ap (λ (k : ℕ). numbers_in 4 k first b) all))
    (λ h.
    let none : n ≡ 0 = e ∙ rw (lt-leb count max_count h) refl in
    ap (moments_of_times form) (is ∙ ap (λ (k : ℕ). numbers_in 4 k first b) none) ∙ too_many form count first b h))
