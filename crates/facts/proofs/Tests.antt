-- Truth values: by cases, what two tests say together, and that no test both holds and fails. Assumes nothing.
use Prim.Native.Nat.{ℕ}
use mathlib.Core.Path.{◌≡◌, refl, sym, ◌∙◌}
use mathlib.Core.Logic.{◌⊎◌, inl, inr}
use mathlib.Core.Bool.{Bool, true, false, ◌&&◌, ◌||◌}
use native.Mathlib.Omega.{arith}
use lib.Dec.{T}

pub true_not_false : true ≡ false → ⊥
true_not_false h = let z : ◌≡◌ {A = ℕ} 0 1 = cc in omega arith

-- no test both holds and fails
pub not_both {ℓ} : {A : Type ℓ} (b : Bool) → b ≡ true → b ≡ false → A
not_both b holds fails = absurd (true_not_false (sym holds ∙ fails))

-- one value of a test or the other
pub by_test_lem {ℓ} : {X : Type ℓ} (b : Bool) → (b ≡ true → X) → (b ≡ false → X) → X
by_test_lem true f g = f refl
by_test_lem false f g = g refl

-- a test that cannot hold fails
pub refuted : (b : Bool) → (b ≡ true → ⊥) → b ≡ false
refuted true h = absurd (h refl)
refuted false h = refl

-- ---- both of two tests

pub both : {a b : Bool} → a ≡ true → b ≡ true → a && b ≡ true
both e d = rw (e, d)

pub first_of_lem : (a b : Bool) → a && b ≡ true → a ≡ true
first_of_lem true b e = refl
first_of_lem false b e = e

pub second_of_lem : (a b : Bool) → a && b ≡ true → b ≡ true
second_of_lem true b e = e
second_of_lem false b e = cc

pub both_hold : (a b : Bool) → a && b ≡ true → (a ≡ true) × (b ≡ true)
both_hold a b e = (first_of_lem a b e, second_of_lem a b e)

pub second_fails : (a b : Bool) → b ≡ false → a && b ≡ false
second_fails true b e = e
second_fails false b e = refl

-- ---- one of two tests

pub either : (a b : Bool) → T (a || b) → T a ⊎ T b
either true b h = inl tt
either false b h = inr h

pub or_left : (a b : Bool) → T a → T (a || b)
or_left true b t = tt
or_left false b t = absurd t

pub or_right : (a b : Bool) → T b → T (a || b)
or_right true b t = tt
or_right false b t = t

pub neither : (a b : Bool) → (a || b) ≡ false → (a ≡ false) × (b ≡ false)
neither true b h = (h, cc)
neither false b h = (refl, h)
