-- The records of a merge (request 2026-09): those of the first journal, and those of the second but for the ones dropped, by day.
-- On equal days the first journal's come first, and each journal's are in its own sequence.
use Rattle.std.specs.Prelude.{ℕ, ◌+◌, List, [], ◌∷◌, ◌++◌, Bool, false, cond, not, ◌||◌, length, ltb}
use Rattle.std.proofs.Math.Option.{Option, none, some}
use Rattle.text_digits.specs.Same.{same_bytes}
use Rattle.journal_spec.specs.Record.{Record, record_bytes}

-- ---- what is dropped

-- some record of the list has these bytes
unfoldable pub is_among : List Record → List ℕ → Bool
is_among [] bytes = false
is_among (r ∷ rs) bytes = same_bytes (record_bytes r) bytes || is_among rs bytes

-- the record has the same bytes as some record of the first journal
abbrev pub is_twin : List Record → Record → Bool
is_twin first r = is_among first (record_bytes r)

-- the records that the test holds of, in their sequence
unfoldable pub select : (Record → Bool) → List Record → List Record
select test [] = []
select test (r ∷ rs) = cond (test r) (r ∷ []) [] ++ select test rs

-- the second journal's records that are dropped: each has the same bytes as some record of the first
unfoldable pub dropped : List Record → List Record → List Record
dropped first second = select (is_twin first) second

-- and those that are not
unfoldable pub undropped : List Record → List Record → List Record
undropped first second = select (λ (r : Record). not (is_twin first r)) second

-- ---- by day

-- the records up to the first one that is not before the day d
unfoldable pub before : ℕ → List Record → List Record
before d [] = []
before d (r ∷ rs) = cond (ltb r.day d) (r ∷ before d rs) []

-- and the records from that one on
unfoldable pub from : ℕ → List Record → List Record
from d [] = []
from d (r ∷ rs) = cond (ltb r.day d) (from d rs) (r ∷ rs)

-- the records of two lists by day: before each record of the first list stand those of the second that are of an earlier day
unfoldable pub by_day : List Record → List Record → List Record
by_day [] ys = ys
by_day (x ∷ xs) ys = before x.day ys ++ x ∷ by_day xs (from x.day ys)

-- the records of the result
unfoldable pub merged_of : List Record → List Record → List Record
merged_of first second = by_day first (undropped first second)

-- ---- form 1 after form 2

-- the place of the first record whose form is below that of the record before it, where the records stand from the place `at` on, after a
-- record of the form `form` (0 before the first)
unfoldable pub fall_from : ℕ → ℕ → List Record → Option ℕ
fall_from form at [] = none
fall_from form at (r ∷ rs) = cond (ltb r.form form) (some at) (fall_from r.form (at + length (record_bytes r)) rs)
