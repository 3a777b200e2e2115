-- Whether a key comes before another, as a test: it goes one way at most, through keys between, and keys of which neither comes before the other
-- are the same. Assumes nothing.
use mathlib.Core.Path.{◌≡◌, refl, sym, ap, subst, ◌∙◌}
use Prim.Native.Nat.{ℕ}
use mathlib.Core.List.{List}
use mathlib.Core.Bool.{true, false}
use Rattle.facts.proofs.Tests.{true_not_false, by_test_lem}
use Rattle.journal_spec.specs.Index.{Order, lower, equal, higher, order_of}
use Rattle.journal_spec.proofs.NameOrder.{order_self, order_equal, order_turned, order_lower}
use Rattle.journal_entries.specs.Shape.{is_lower, is_below}
use Rattle.journal_entries.proofs.Parsed.{below_lower, lower_below}

-- ---- tests

pub by_three {ℓ} : {X : Type ℓ} (o : Order) → (o ≡ lower → X) → (o ≡ equal → X) → (o ≡ higher → X) → X
by_three lower f g h = f refl
by_three equal f g h = g refl
by_three higher f g h = h refl

pub not_lower : (a b : List ℕ) → is_below a b ≡ false → order_of a b ≡ lower → ⊥
not_lower a b h l = true_not_false (sym (lower_below a b l) ∙ h)

-- ---- the order

pub below_self : (a : List ℕ) → is_below a a ≡ false
unfolding is_below is_lower
below_self a = ap is_lower (order_self a)

-- before one that does not come after a third
pub below_upto : (a b c : List ℕ) → is_below a b ≡ true → is_below c b ≡ false → is_below a c ≡ true
below_upto a b c h k =
    by_three (order_of b c)
    (λ l. lower_below a c (order_lower a b c (below_lower a b h) l))
    (λ e. subst (λ (x : List ℕ). is_below a x ≡ true) (order_equal b c e) h)
    (λ l. absurd (not_lower c b k (order_turned b c l)))

-- and not after one that comes before a third
pub upto_below : (a b c : List ℕ) → is_below b a ≡ false → is_below b c ≡ true → is_below a c ≡ true
upto_below a b c h k =
    by_test_lem (is_below a c) (λ t. t) (λ f. absurd (true_not_false (sym (below_upto b c a k f) ∙ h)))

pub upto_upto : (a b c : List ℕ) → is_below b a ≡ false → is_below c b ≡ false → is_below c a ≡ false
upto_upto a b c h k =
    by_test_lem (is_below c a) (λ t. absurd (true_not_false (sym (below_upto c a b t h) ∙ k))) (λ f. f)

pub below_turned : (a b : List ℕ) → is_below a b ≡ true → is_below b a ≡ false
below_turned a b h =
    by_test_lem (is_below b a) (λ t. absurd (true_not_false (sym (below_through t) ∙ below_self a))) (λ f. f)
  where
    below_through : is_below b a ≡ true → is_below a a ≡ true
    below_through t = lower_below a a (order_lower a b a (below_lower a b h) (below_lower b a t))

-- neither comes before the other
pub neither_below : (a b : List ℕ) → is_below a b ≡ false → is_below b a ≡ false → a ≡ b
neither_below a b h k =
    by_three (order_of a b)
    (λ l. absurd (not_lower a b h l))
    (λ e. order_equal a b e)
    (λ l. absurd (not_lower b a k (order_turned a b l)))

-- of two that are not the same
pub below_not_equal : (a b : List ℕ) → is_below a b ≡ true → order_of a b ≡ equal → ⊥
below_not_equal a b h e = true_not_false (sym h ∙ subst (λ (x : List ℕ). is_below a x ≡ false) (order_equal a b e) (below_self a))

pub above_not_equal : (a b : List ℕ) → is_below b a ≡ true → order_of a b ≡ equal → ⊥
above_not_equal a b h e = true_not_false (sym h ∙ subst (λ (x : List ℕ). is_below x a ≡ false) (order_equal a b e) (below_self a))
