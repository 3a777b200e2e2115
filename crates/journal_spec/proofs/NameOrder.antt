-- The order of names, byte by byte, a name that begins another first: equal exactly of the same name, one way or the other, and transitive.
-- Assumes nothing.
use mathlib.Core.Path.{◌≡◌, refl, sym, ap₂, ◌∙◌}
use Prim.Native.Nat.{ℕ, ◌<◌}
use mathlib.Core.List.{List, [], ◌∷◌, ◌++◌}
use native.Mathlib.Omega.{arith}
use borrow.Author.Tests.{lt-ltb, le-ltb}
use Rattle.facts.proofs.Orders.{by_order}
use Rattle.journal_spec.specs.Index.{lower, equal, higher, order_of}

-- no two of the three
pub lower_not_equal : lower ≡ equal → ⊥
lower_not_equal h = let z : ◌≡◌ {A = ℕ} 0 1 = cc in omega arith

pub higher_not_equal : higher ≡ equal → ⊥
higher_not_equal h = let z : ◌≡◌ {A = ℕ} 0 1 = cc in omega arith

pub higher_not_lower : higher ≡ lower → ⊥
higher_not_lower h = let z : ◌≡◌ {A = ℕ} 0 1 = cc in omega arith

-- ---- the first bytes

module _ (x y : ℕ) (xs ys : List ℕ) where
  first_lower : x < y → order_of (x ∷ xs) (y ∷ ys) ≡ lower
  unfolding order_of
  first_lower h = rw (lt-ltb x y h) refl

  first_higher : y < x → order_of (x ∷ xs) (y ∷ ys) ≡ higher
  unfolding order_of
  first_higher h = rw (le-ltb x y (omega arith), lt-ltb y x h) refl

  first_same : x ≡ y → order_of (x ∷ xs) (y ∷ ys) ≡ order_of xs ys
  unfolding order_of
  first_same h = rw (le-ltb x y (omega arith), le-ltb y x (omega arith)) refl

  -- the first bytes decide, or are the same
  by_first {ℓ} : {X : Type ℓ} → (x < y → X) → (y < x → X) → (x ≡ y → X) → X
  by_first f g k = by_order x y (λ h. by_order y x (λ l. k (omega arith)) (λ l. f l)) g

-- ---- equal

pub order_self : (xs : List ℕ) → order_of xs xs ≡ equal
order_self [] = unfold order_of in refl
order_self (x ∷ xs) = first_same x x xs xs refl ∙ order_self xs

pub order_equal : (xs ys : List ℕ) → order_of xs ys ≡ equal → xs ≡ ys
order_equal [] [] h = refl
order_equal [] (y ∷ ys) h = unfold order_of in absurd (lower_not_equal h)
order_equal (x ∷ xs) [] h = unfold order_of in absurd (higher_not_equal h)
order_equal (x ∷ xs) (y ∷ ys) h =
    by_first x y xs ys
    (λ l. absurd (lower_not_equal (sym (first_lower x y xs ys l) ∙ h)))
    (λ l. absurd (higher_not_equal (sym (first_higher x y xs ys l) ∙ h)))
    (λ e. ap₂ (λ (z : ℕ) (zs : List ℕ). z ∷ zs) e (order_equal xs ys (sym (first_same x y xs ys e) ∙ h)))

-- ---- a name that begins another comes first

pub order_begins : (xs : List ℕ) (y : ℕ) (ys : List ℕ) → order_of xs (xs ++ y ∷ ys) ≡ lower
order_begins [] y ys = unfold order_of in refl
order_begins (x ∷ xs) y ys = first_same x x xs (xs ++ y ∷ ys) refl ∙ order_begins xs y ys

-- ---- the other way round

pub order_turned : (xs ys : List ℕ) → order_of xs ys ≡ higher → order_of ys xs ≡ lower
order_turned [] [] h = unfold order_of in let z : ◌≡◌ {A = ℕ} 0 1 = cc in absurd (omega arith)
order_turned [] (y ∷ ys) h = unfold order_of in absurd (higher_not_lower (sym h))
order_turned (x ∷ xs) [] h = unfold order_of in refl
order_turned (x ∷ xs) (y ∷ ys) h =
    by_first x y xs ys
    (λ l. absurd (higher_not_lower (sym h ∙ first_lower x y xs ys l)))
    (λ l. first_lower y x ys xs l)
    (λ e. first_same y x ys xs (sym e) ∙ order_turned xs ys (sym (first_same x y xs ys e) ∙ h))

-- ---- transitive

pub order_lower : (xs ys zs : List ℕ) → order_of xs ys ≡ lower → order_of ys zs ≡ lower → order_of xs zs ≡ lower
order_lower [] [] zs h k = k
order_lower [] (y ∷ ys) [] h k = unfold order_of in absurd (higher_not_lower k)
order_lower [] (y ∷ ys) (z ∷ zs) h k = unfold order_of in refl
order_lower (x ∷ xs) [] zs h k = unfold order_of in absurd (higher_not_lower h)
order_lower (x ∷ xs) (y ∷ ys) [] h k = unfold order_of in absurd (higher_not_lower k)
order_lower (x ∷ xs) (y ∷ ys) (z ∷ zs) h k = go (order_lower xs ys zs)
  where
    go : (order_of xs ys ≡ lower → order_of ys zs ≡ lower → order_of xs zs ≡ lower) → order_of (x ∷ xs) (z ∷ zs) ≡ lower
    go ih =
        by_first x y xs ys
        (λ l. by_first y z ys zs
        (λ m. first_lower x z xs zs (omega arith))
        (λ m. absurd (higher_not_lower (sym (first_higher y z ys zs m) ∙ k)))
        (λ e. first_lower x z xs zs (omega arith)))
        (λ l. absurd (higher_not_lower (sym (first_higher x y xs ys l) ∙ h)))
        (λ e. by_first y z ys zs
        (λ m. first_lower x z xs zs (omega arith))
        (λ m. absurd (higher_not_lower (sym (first_higher y z ys zs m) ∙ k)))
        (λ d. first_same x z xs zs (e ∙ d) ∙ ih (sym (first_same x y xs ys e) ∙ h) (sym (first_same y z ys zs d) ∙ k)))
