-- The papers' ranges as inequalities: what holds of a record that may stand in a journal, and what is asked of a request, by number.
-- The model's tests are booleans; the laws `taken_exactly` and `turned_exactly` say that a request is taken exactly where all of this holds, and
-- declined exactly by the number of the first condition that fails.
use Rattle.std.specs.Prelude.{◌≡◌, ◌⊎◌, ℕ, suc, ◌+◌, ◌≤◌, ◌<◌, List, [], ◌∷◌, ◌++◌, length, take, get_or}
use Rattle.std.proofs.Math.Option.{Option, none, some}
use Rattle.std.specs.Float.{binary64}
use Rattle.std.specs.Float.Ieee.{to_bits}
use Rattle.journal_spec.specs.Record.{Record, Last, IsDay, last_of, record_bytes}
use Rattle.journal_spec.specs.Profile.{Rule, plain, profile}
use Rattle.journal_spec.specs.Index.{index_bytes, fresh_index}
use Rattle.journal_spec.specs.Request.{Request}
use Rattle.journal_spec.specs.Model.{Model, committed_of, worked_out}

-- each number of the list is one of low, low + 1, .., high
abbrev pub Each : ℕ → ℕ → List ℕ → Type 0
Each low high xs = (i : ℕ) → i < length xs → (low ≤ get_or xs i 0) × (get_or xs i 0 ≤ high)

-- all of them are the same number
abbrev pub AllSame : List ℕ → Type 0
AllSame xs = (i j : ℕ) → i < length xs → j < length xs → get_or xs i 0 ≡ get_or xs j 0

-- 1 to 32 bytes, each 21 to 7e
pub record NameRanges (name : List ℕ) : Type 0 where
  pub least : 1 ≤ length name
  pub most : length name ≤ 32
  pub bytes : Each 0x21 0x7e name

-- 1 to 8 chances, each 1 to 999,999, rising strictly
pub record ChanceRanges (chances : List ℕ) : Type 0 where
  pub least : 1 ≤ length chances
  pub most : length chances ≤ 8
  pub range : Each 1 999_999 chances
  pub rising : (i : ℕ) → suc i < length chances → get_or chances i 0 < get_or chances (suc i) 0

-- 2 to 128 times, each 1 to 1,048,575
pub record TimeRanges (times : List ℕ) : Type 0 where
  pub least : 2 ≤ length times
  pub most : length times ≤ 128
  pub range : Each 1 1_048_575 times

-- the profile's ranges
pub record ProfileRanges (r : Record) : Type 0 where
  pub form : r.form ≡ 2
  pub chances : r.chances ≡ 1 ∷ 10 ∷ 100 ∷ 1_000 ∷ []
  pub times : 32 ≤ length r.times

-- a record keeps a rule
abbrev pub Keeps : Rule → Record → Type 0
Keeps plain r = Unit {0}
Keeps profile r = ProfileRanges r

-- where an index is handed, the journal's stands at its buffer's front
abbrev pub IndexStands : Model → Option (List ℕ) → Type 0
IndexStands m none = Unit {0}
IndexStands m (some b) = let now = index_bytes (fresh_index m.records) in take (length now) b ≡ now

-- and its buffer holds the one with the record
abbrev pub IndexFits : Model → Record → Option (List ℕ) → Type 0
IndexFits m r none = Unit {0}
IndexFits m r (some b) = length (index_bytes (fresh_index (m.records ++ r ∷ []))) ≤ length b

-- What is asked of something, one condition after the other, each with the number that is named where it is the first that fails.
pub data Asked : Type 1 where
  end : Asked
  ask : ℕ → Type 0 → Asked → Asked

-- every condition holds
abbrev pub AllHold : Asked → Type 0
AllHold end = Unit {0}
AllHold (ask n Holds rows) = Holds × AllHold rows

-- n is the number of the first that fails
abbrev pub FirstNamed : Asked → ℕ → Type 0
FirstNamed end n = ⊥
FirstNamed (ask m Holds rows) n = ((Holds → ⊥) × (n ≡ m)) ⊎ (Holds × FirstNamed rows n)

-- What the papers ask of a request, in their order and by their numbers, where r is its record, after the records of a model in a slice of
-- `room` bytes.
abbrev pub asked_of : ℕ → Model → Request → Record → Asked
asked_of room m q r =
    let size = committed_of m + length (record_bytes r) in
    ask 3 ((last_of m.records).day ≤ q.day)
    (ask 4 (NameRanges q.name)
    (ask 5 (ChanceRanges q.chances)
    (ask 17 ((i : ℕ) → i < length q.chances → get_or q.chances i 0 ≤ 500_000)
    (ask 6 (TimeRanges r.times)
    (ask 19 (Keeps q.rule r)
    (ask 9 ((size ≤ room) × (size ≤ 65_536))
    (ask 14 (IndexStands m q.index)
    (ask 15 (IndexFits m r q.index)
    end))))))))

-- a record that may stand after the record `last`
pub record RecordRanges (last : Last) (r : Record) : Type 0 where
  pub form : (1 ≤ r.form) × (r.form ≤ 2)
  pub forms : last.form ≤ r.form
  pub day : last.day ≤ r.day
  pub day_fits : IsDay r.day
  pub name : NameRanges r.name
  pub chances : ChanceRanges r.chances
  pub times : TimeRanges r.times
  pub limit_count : length r.limits ≡ length r.chances
  pub limits : (i : ℕ) → i < length r.chances → get_or r.limits i 0 ≡ to_bits binary64 (worked_out r.form r.times (get_or r.chances i 0))

-- each record may stand after those before it
abbrev pub AllRanges : List Record → List Record → Type 0
AllRanges before [] = Unit {0}
AllRanges before (r ∷ rs) = RecordRanges (last_of before) r × AllRanges (before ++ r ∷ []) rs
