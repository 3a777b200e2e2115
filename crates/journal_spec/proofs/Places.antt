-- Records end to end in their places: each starts where the one before it ends.
-- Assumes nothing.
use mathlib.Core.Path.{◌≡◌, refl, ap}
use Prim.Native.Nat.{ℕ, suc, ◌+◌}
use mathlib.Core.List.{List, [], ◌∷◌}
use lib.ListN.{length}
use Rattle.journal_spec.specs.Record.{Record, record_bytes}
use Rattle.journal_spec.specs.Scan.{Placed, records_of}

-- the records in their places, from the place `at` on
unfoldable pub placed_from : ℕ → List Record → List Placed
placed_from at [] = []
placed_from at (r ∷ rs) = record { content = r; start = at; size = length (record_bytes r) } ∷ placed_from (at + length (record_bytes r)) rs

pub records_of_placed : (at : ℕ) (rs : List Record) → records_of (placed_from at rs) ≡ rs
unfolding records_of placed_from
records_of_placed at [] = refl
records_of_placed at (r ∷ rs) = ap (λ (l : List Record). r ∷ l) (records_of_placed (at + length (record_bytes r)) rs)

pub length_placed : (at : ℕ) (rs : List Record) → length (placed_from at rs) ≡ length rs
unfolding placed_from
length_placed at [] = refl
length_placed at (r ∷ rs) = ap suc (length_placed (at + length (record_bytes r)) rs)
