-- The mark by document 02's 2026-07: S exactly for fewer than 8 times, F exactly for 8 or more that are all the same, N exactly for all others. And which
-- marks that request changes: those of fewer than 8 times, all the same, are S and were F; every other set of times keeps its mark. Assumes nothing.
use mathlib.Core.Path.{◌≡◌, refl, sym, ◌∙◌}
use mathlib.Core.Logic.{◌↔◌}
use Prim.Native.Nat.{ℕ, zero, suc, ◌≤◌, ◌<◌}
use mathlib.Core.List.{List, [], ◌∷◌}
use mathlib.Core.Bool.{true, false}
use native.Mathlib.Omega.{arith}
use lib.ListN.{length, get_or}
use lib.Dec.{eqb}
use borrow.Author.Tests.{lt-ltb, le-ltb, eqb-true, eq-eqb}
use Rattle.facts.proofs.Tests.{by_test_lem}
use Rattle.facts.proofs.Orders.{by_order}
use Rattle.facts.proofs.Tests as tests
use Rattle.journal_spec.specs.Read.{flat, few, normal, all_equal, are_equal, mark_from, mark_of}
use Rattle.journal_spec.specs.Ranges.{AllSame}
use Rattle.journal_spec.specs.Former.{former_mark}

-- ---- all the same

equal_each : (x : ℕ) (xs : List ℕ) → all_equal x xs ≡ true → (i : ℕ) → i < length (x ∷ xs) → x ≡ get_or (x ∷ xs) i 0
unfolding all_equal
equal_each x xs h zero k = refl
equal_each x [] h (suc i) k = absurd (omega arith)
equal_each x (y ∷ ys) h (suc i) k =
    let e : x ≡ y = eqb-true x y (tests.first_of_lem (eqb x y) (all_equal x ys) h) in
    e ∙ equal_each y ys (rw e at (tests.second_of_lem (eqb x y) (all_equal x ys) h)) i (omega arith)

each_equal : (x : ℕ) (xs : List ℕ) → ((i : ℕ) → i < length xs → x ≡ get_or xs i 0) → all_equal x xs ≡ true
unfolding all_equal
each_equal x [] h = refl
each_equal x (y ∷ ys) h = tests.both (eq-eqb x y (h 0 (omega arith))) (each_equal x ys (λ i k. h (suc i) (omega arith)))

pub equal_exactly : (xs : List ℕ) → (are_equal xs ≡ true) ↔ AllSame xs
unfolding are_equal
equal_exactly [] = (λ h i j k l. absurd (omega arith), λ s. refl)
equal_exactly (x ∷ xs) = (
  λ h i j k l. sym (equal_each x xs h i k) ∙ equal_each x xs h j l,
  λ s. each_equal x xs (λ i k. s 0 (suc i) (omega arith) (omega arith)),
)

-- ---- today's marks

module _ (times : List ℕ) where
  is_few : length times < 8 → mark_of times ≡ few
  unfolding mark_of mark_from
  is_few h = rw (lt-ltb (length times) 8 h) refl

  is_flat : 8 ≤ length times → are_equal times ≡ true → mark_of times ≡ flat
  unfolding mark_of mark_from
  is_flat h e = rw (le-ltb (length times) 8 h, e) refl

  is_normal : 8 ≤ length times → are_equal times ≡ false → mark_of times ≡ normal
  unfolding mark_of mark_from
  is_normal h e = rw (le-ltb (length times) 8 h, e) refl

  unequal : (AllSame times → ⊥) → are_equal times ≡ false
  unequal d = by_test_lem (are_equal times) (λ e. absurd (d ((equal_exactly times).0 e))) (λ e. e)

  pub few_exactly : (mark_of times ≡ few) ↔ (length times < 8)
  few_exactly = (λ m. by_order 8 (length times) (λ h. absurd (many h m)) (λ h. h), is_few)
    where
      many : 8 ≤ length times → mark_of times ≡ few → ⊥
      many h m =
          by_test_lem (are_equal times)
          (λ e. let f = is_flat h e in let z : ◌≡◌ {A = ℕ} 0 1 = cc in omega arith)
          (λ e. let f = is_normal h e in let z : ◌≡◌ {A = ℕ} 0 1 = cc in omega arith)

  pub flat_exactly : (mark_of times ≡ flat) ↔ ((8 ≤ length times) × AllSame times)
  flat_exactly = (
    λ m.
        by_order 8 (length times)
        (λ h.
        by_test_lem (are_equal times)
        (λ e. (h, (equal_exactly times).0 e))
        (λ e. let f = is_normal h e in let z : ◌≡◌ {A = ℕ} 0 1 = cc in absurd (omega arith)))
        (λ h. let f = is_few h in let z : ◌≡◌ {A = ℕ} 0 1 = cc in absurd (omega arith)),
    λ s. is_flat s.0 ((equal_exactly times).1 s.1),
  )

  pub normal_exactly : (mark_of times ≡ normal) ↔ ((8 ≤ length times) × (AllSame times → ⊥))
  normal_exactly = (
    λ m.
        by_order 8 (length times)
        (λ h. (h, λ s. let f = is_flat h ((equal_exactly times).1 s) in let z : ◌≡◌ {A = ℕ} 0 1 = cc in omega arith))
        (λ h. let f = is_few h in let z : ◌≡◌ {A = ℕ} 0 1 = cc in absurd (omega arith)),
    λ s. is_normal s.0 (unequal s.1),
  )

  -- ---- before 2026-07

  pub marks_changed : AllSame times → length times < 8 → (former_mark times ≡ flat) × (mark_of times ≡ few)
  unfolding former_mark
  marks_changed s h = (rw ((equal_exactly times).1 s) refl, is_few h)

  pub many_kept : 8 ≤ length times → mark_of times ≡ former_mark times
  unfolding mark_of mark_from former_mark
  many_kept h = rw (le-ltb (length times) 8 h) refl

  pub unequal_kept : (AllSame times → ⊥) → mark_of times ≡ former_mark times
  unfolding mark_of mark_from former_mark
  unequal_kept d = rw (unequal d) refl
