-- Two answers of the search with the same meaning are the same answer, so that an equation for the meaning leaves nothing of the answer free.
-- Assumes nothing.
use mathlib.Core.Path.{◌≡◌, refl}
use Prim.Native.Nat.{ℕ}
use mathlib.Core.Option.{Option, none, some}
use Rattle.limit.proofs.Meaning.{injective_by}
use Rattle.journal_order.specs.Sorted.{place_meaning}
use Rattle.std.specs.Prelude as P

of_place : Option ℕ → P.Option ℕ
of_place (some p) = P.Some p
of_place none = P.None

pub place_meaning_injective : (a b : P.Option ℕ) → place_meaning a ≡ place_meaning b → a ≡ b
unfolding place_meaning of_place
place_meaning_injective = injective_by place_meaning of_place back
  where
    back : (a : P.Option ℕ) → of_place (place_meaning a) ≡ a
    back (P.Some p) = refl
    back P.None = refl
