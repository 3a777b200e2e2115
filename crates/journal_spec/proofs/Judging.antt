-- What no refusal says: the test held, the number was in its range, and none of a list of refusals was one.
-- Assumes nothing.
use mathlib.Core.Path.{◌≡◌, refl}
use Prim.Native.Nat.{ℕ, zero, suc, ◌≤◌, ◌<◌}
use mathlib.Core.List.{List, [], ◌∷◌}
use mathlib.Core.Bool.{Bool, true, false, not, ◌&&◌}
use native.Mathlib.Omega.{arith}
use lib.ListN.{get_or}
use Rattle.limit.specs.Times.{in_range}
use Rattle.limit.proofs.InRange as R
use Rattle.journal_spec.specs.Refusals.{unless, outside, first_of}

pub unless_none : (b : Bool) (n : ℕ) → unless b (suc n) ≡ 0 → b ≡ true
unfolding unless
unless_none true n h = refl
unless_none false n h = absurd (omega arith)

pub unless_not : (b : Bool) (n : ℕ) → unless (not b) (suc n) ≡ 0 → b ≡ false
unfolding unless
unless_not true n h = absurd (omega arith)
unless_not false n h = refl

pub unless_true : (b : Bool) (n : ℕ) → b ≡ true → unless b n ≡ 0
unfolding unless
unless_true b n e = rw e

pub unless_false : (b : Bool) (n : ℕ) → b ≡ false → unless b n ≡ n
unfolding unless
unless_false b n e = rw e

-- the refusal of two tests, one after the other, is that of both
pub first_of_two : (a b : Bool) (n : ℕ) → first_of (unless a (suc n) ∷ unless b (suc n) ∷ []) ≡ unless (a && b) (suc n)
unfolding unless first_of
first_of_two true true n = refl
first_of_two true false n = refl
first_of_two false b n = refl

pub first_none : (n : ℕ) (ns : List ℕ) → first_of (n ∷ ns) ≡ 0 → (n ≡ 0) × (first_of ns ≡ 0)
unfolding first_of
first_none zero ns h = (refl, h)
first_none (suc n) ns h = absurd (omega arith)

-- where no row of a list refuses, row i does not
pub none_at_lem : (ns : List ℕ) → first_of ns ≡ 0 → (i : ℕ) → get_or ns i 0 ≡ 0
none_at_lem [] h i = refl
none_at_lem (n ∷ ns) h zero = (first_none n ns h).0
none_at_lem (n ∷ ns) h (suc i) = none_at_lem ns (first_none n ns h).1 i

pub none_first : (n : ℕ) (ns : List ℕ) → n ≡ 0 → first_of ns ≡ 0 → first_of (n ∷ ns) ≡ 0
unfolding first_of
none_first n ns e h = rw e h

module _ (low high n x : ℕ) where
  pub outside_none : outside low high (suc n) x ≡ 0 → (low ≤ x) × (x ≤ high)
  unfolding outside
  outside_none h =
      let e = unless_none (in_range low high x) n h in
      (R.at_least low high x e, R.at_most low high x e)

  pub inside : low ≤ x → x ≤ high → outside low high n x ≡ 0
  unfolding outside
  inside h k = unless_true (in_range low high x) n (R.inside low high x h k)

  pub below : x < low → outside low high n x ≡ n
  unfolding outside
  below h = unless_false (in_range low high x) n (R.below low high x h)
