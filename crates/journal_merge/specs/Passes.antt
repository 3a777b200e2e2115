-- A pass over both journals: where it stands, what a step comes to, and what the passes answer.
-- Assumes nothing.
use Rattle.std.specs.Prelude.{◌≡◌, ℕ, ◌+◌, ◌≤◌, ◌<◌, List, [], ◌∷◌, ◌++◌, Bool, true, false, cond, length, leb, Result, Ok, Err}
use Rattle.std.proofs.Math.Option.{Option, none, some}
use Rattle.refusals.specs.declared.Refusal.TheVariants.{OldForm}
use Rattle.journal_spec.specs.Record.{Record, record_bytes}
use Rattle.journal_spec.specs.Model.{lengths_of}
use Rattle.journal_spec.specs.Cursor.{records_in}
use Rattle.journal_spec.proofs.Cursor.{Cursor}
use Rattle.journal_spec.proofs.Whole.{WholeBytes}
use Rattle.journal_parts.specs.Numbers.{number_in}
use Rattle.journal_parts.specs.Spans.{day_at}
use Rattle.journal_merge_spec.specs.Records.{undropped, by_day, merged_of, fall_from}
use Rattle.journal_merge_spec.specs.Merge.{MergeOutcome, fall_of, room_of, first_refusal, settle_merge}
use Rattle.journal_merge_spec.proofs.ByDay.{DaysFrom}
use Rattle.journal_merge.specs.declared.stepping.Places.{Places}
use Rattle.journal_merge.specs.declared.MergeError.{MergeError}
use Rattle.journal_merge.specs.declared.MergeError.TheVariants as E

-- the first journal's record at the place i is next, where the second's next is at j
unfoldable pub first_next : List ℕ → List ℕ → ℕ → ℕ → Bool
first_next a b i j = cond (leb (length a) i) false (cond (leb (length b) j) true (leb (day_at a i) (day_at b j)))

-- ---- where a pass stands

-- the records `made` are made, xs are left of the first journal and ys of the second, whose days do not fall
pub record Reached (a b : List ℕ) (p : Places) (made : List Record) : Type 0 where
  pub xs : List Record
  pub ys : List Record
  pub first : Cursor a p.first xs
  pub second : Cursor b p.second ys
  pub parts : merged_of (records_in a) (records_in b) ≡ made ++ by_day xs (undropped (records_in a) ys)
  pub day : ℕ
  pub days : DaysFrom day ys

-- with some records made
pub record Somewhere (a b : List ℕ) (p : Places) : Type 0 where
  pub first_whole : WholeBytes a
  pub second_whole : WholeBytes b
  pub made : List Record
  pub reached : Reached a b p made

-- ---- a step

-- a record is next in the result, and these are its bytes; records that are dropped may stand before it
pub record Took (a b : List ℕ) (p : Places) (made : List Record) (part : List ℕ) (after : Places) : Type 0 where
  pub taken : Record
  pub bytes : part ≡ record_bytes taken
  pub positive : 0 < length part
  pub form : number_in 2 0 part ≡ taken.form
  pub sum : p.first + p.second + length part ≤ after.first + after.second
  pub reached : Reached a b after (made ++ taken ∷ [])

-- records are dropped
pub record Passed (a b : List ℕ) (p : Places) (after : Places) : Type 0 where
  pub further : p.first + p.second ≤ after.first + after.second
  pub reached : (made : List Record) → Reached a b p made → Reached a b after made

-- ---- what the passes answer

-- the first, by where forms fall
unfoldable pub measured_by : Option ℕ → ℕ → Result ℕ MergeError
measured_by none n = Ok n
measured_by (some p) n = Err (E.DeclinedAt (record { refusal = OldForm; place = p }))

unfoldable pub measured_of : List Record → Result ℕ MergeError
measured_of rs = measured_by (fall_from 0 0 rs) (lengths_of rs)

-- the merge of two whole journals: the last rows alone
unfoldable pub whole_outcome : List Record → List ℕ → MergeOutcome
whole_outcome rs buffer = settle_merge (first_refusal (fall_of rs ∷ room_of buffer rs ∷ [])) rs buffer
