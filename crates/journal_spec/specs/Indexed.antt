-- Request 2026-08: what an index is. Its entries rise strictly by name bytes, and a name's start is that of the name's last record that stands;
-- a name that is not shown has none. There is one such list (law `index_unique`), and appending and making afresh give it (`amended_is`, `fresh_is`).
-- A name's last record is the one that stands for it.
use Rattle.std.specs.Prelude.{◌≡◌, ℕ, zero, suc, ◌+◌, List, [], ◌∷◌, cond, length}
use Rattle.std.proofs.Math.Option.{Option, none, some}
use Rattle.journal_spec.specs.Tests.{same}
use Rattle.journal_spec.specs.Record.{Record, record_bytes}
use Rattle.journal_spec.specs.Index.{IndexEntry, Order, lower, equal, higher, order_of}

-- the first, or else the second
unfoldable pub or_else : Option ℕ → Option ℕ → Option ℕ
or_else none b = b
or_else (some s) b = some s

-- a start where the names are the same
unfoldable pub where_equal : Order → ℕ → Option ℕ
where_equal lower s = none
where_equal equal s = some s
where_equal higher s = none

-- the start that a list of entries has for a name
unfoldable pub look_up : List ℕ → List IndexEntry → Option ℕ
look_up name [] = none
look_up name (e ∷ es) = or_else (where_equal (order_of name e.name) e.start) (look_up name es)

-- the start of the name's last record, none where the name is not shown
unfoldable pub last_start : List ℕ → ℕ → List Record → Option ℕ
last_start name at [] = none
last_start name at (r ∷ rs) = or_else (last_start name (at + length (record_bytes r)) rs) (where_equal (order_of name r.name) at)

-- the name comes before the first entry
abbrev pub Before : List ℕ → List IndexEntry → Type 0
Before name [] = Unit {0}
Before name (e ∷ es) = order_of name e.name ≡ lower

-- the entries rise strictly by name bytes
abbrev pub Rising : List IndexEntry → Type 0
Rising [] = Unit {0}
Rising (e ∷ es) = Before e.name es × Rising es

-- the index of records from a place on: it rises, and has each name shown, with its last record's start, and no other
pub record IsIndex (at : ℕ) (rs : List Record) (es : List IndexEntry) : Type 0 where
  pub rising : Rising es
  pub has : (name : List ℕ) → look_up name es ≡ last_start name at rs

-- ---- the records that stand by it

-- a name's standing record, its last one
unfoldable pub last_named : List ℕ → List Record → Option Record
last_named name [] = none
last_named name (r ∷ rs) = elim (last_named name rs) [ none ↦ cond (same r.name name) (some r) none | some s ↦ some s ]

-- the standing record at a position of the index, none beyond its entries
unfoldable pub standing_at : List Record → List IndexEntry → ℕ → Option Record
standing_at rs [] i = none
standing_at rs (e ∷ es) zero = last_named e.name rs
standing_at rs (e ∷ es) (suc i) = standing_at rs es i
