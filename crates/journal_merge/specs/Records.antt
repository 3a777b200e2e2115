-- Places in the bytes of a whole journal at which records stand.
-- Assumes nothing.
use Rattle.std.specs.Prelude.{ℕ, ◌≤◌, List, ◌∷◌, length}
use Rattle.journal_spec.specs.Record.{Record}
use Rattle.journal_spec.specs.Scan.{max_length}
use Rattle.journal_spec.proofs.Cursor.{Cursor}
use Rattle.journal_spec.proofs.Whole.{WholeBytes}
use Rattle.journal_order.specs.Starts.{starts_in}
use Rattle.journal_order.specs.Keys.{key_at}
use Rattle.journal_order.specs.Sorted.{LatestOf}
use Rattle.journal_order.specs.declared.keys.Key.TheVariants as K

-- records stand from the place `at` on, to the end of the bytes
pub record Rest (b : List ℕ) (at : ℕ) : Type 0 where
  pub records : List Record
  pub cursor : Cursor b at records
  pub short : length b ≤ max_length

-- one at least
pub record AtRecord (b : List ℕ) (at : ℕ) : Type 0 where
  pub first : Record
  pub others : List Record
  pub cursor : Cursor b at (first ∷ others)
  pub short : length b ≤ max_length

-- the places of a whole journal's records, sorted by their bytes, one for each that differs
pub record ByBytes (b places : List ℕ) : Type 0 where
  pub whole : WholeBytes b
  pub latest : LatestOf (key_at K.Record b) (starts_in b) places
