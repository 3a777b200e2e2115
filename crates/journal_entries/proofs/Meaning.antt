-- Two answers with the same meaning are the same answer, so that an equation for the meaning leaves nothing of the answer free.
-- Assumes nothing.
use mathlib.Core.Path.{◌≡◌, refl}
use Prim.Native.Nat.{ℕ}
use mathlib.Core.Option as maybe
use Rattle.std.specs.Prelude.{Option, Some, None}
use Rattle.std.specs.declared.cmp.Ordering.{Ordering}
use Rattle.std.specs.declared.cmp.Ordering.TheVariants.{Less, Equal, Greater}
use Rattle.limit.proofs.Meaning.{injective_by}
use Rattle.journal_spec.specs.Index.{Order, lower, equal, higher}
use Rattle.journal_entries.specs.Answers.{order_meaning, start_meaning}

of_order : Order → Ordering
of_order lower = Less
of_order equal = Equal
of_order higher = Greater

pub order_meaning_injective : (a b : Ordering) → order_meaning a ≡ order_meaning b → a ≡ b
unfolding order_meaning of_order
order_meaning_injective = injective_by order_meaning of_order back
  where
    back : (a : Ordering) → of_order (order_meaning a) ≡ a
    back Less = refl
    back Equal = refl
    back Greater = refl

of_start : maybe.Option ℕ → Option ℕ
of_start (maybe.some n) = Some n
of_start maybe.none = None

pub start_meaning_injective : (a b : Option ℕ) → start_meaning a ≡ start_meaning b → a ≡ b
unfolding start_meaning of_start
start_meaning_injective = injective_by start_meaning of_start back
  where
    back : (a : Option ℕ) → of_start (start_meaning a) ≡ a
    back (Some n) = refl
    back None = refl
