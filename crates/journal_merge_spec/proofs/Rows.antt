-- The merge by its rows: what it comes to by both scans' answers, by where forms fall in the result, and by its length.
-- Assumes nothing.
use mathlib.Core.Path.{◌≡◌, refl}
use Prim.Native.Nat.{ℕ, ◌≤◌, ◌<◌, min}
use mathlib.Core.List.{List}
use mathlib.Core.Option.{none, some}
use lib.ListN.{length}
use borrow.Author.Tests.{le-leb, lt-leb}
use Rattle.journal_spec.specs.Record.{Record, records_bytes}
use Rattle.journal_spec.specs.Scan.{max_length, ScanResult, whole, torn}
use Rattle.journal_spec.specs.Scan as Scan
use Rattle.journal_spec.specs.Append.{written}
use Rattle.journal_spec.specs.Model.{lengths_of}
use Rattle.journal_merge_spec.specs.Records.{fall_from}
use Rattle.journal_merge_spec.specs.Merge.{of_first, of_second, MergeResult, merged, damaged, declined_of, declined_at, declined, MergeOutcome}
use Rattle.journal_merge_spec.specs.Merge.{fault_of, torn_of, fall_of, room_of, merge_refusals, first_refusal, settle_merge, merge_by}

-- an answer, with the buffer as it was
abbrev pub refused : MergeResult → List ℕ → MergeOutcome
refused answer buffer = record { answer = answer; buffer = buffer }

-- the result's length, with the result at the buffer's front
abbrev pub put : List Record → List ℕ → MergeOutcome
put rs buffer = record { answer = merged (lengths_of rs); buffer = written buffer 0 (records_bytes rs) }

module _ (rs : List Record) (buffer : List ℕ) where
  -- ---- the inputs

  -- the first journal's fault comes first, whatever the second is
  pub first_damaged : (n p : ℕ) (y : ScanResult) → merge_by (Scan.damaged n p) y rs buffer ≡ refused (damaged of_first n p) buffer
  unfolding merge_by merge_refusals first_refusal settle_merge fault_of
  first_damaged n p y = refl

  -- then the second's, also where the first is torn
  pub second_damaged : (k c n p : ℕ) → merge_by (whole k c) (Scan.damaged n p) rs buffer ≡ refused (damaged of_second n p) buffer
  unfolding merge_by merge_refusals first_refusal settle_merge fault_of torn_of
  second_damaged k c n p = refl

  pub second_damaged_torn : (k c n p : ℕ) → merge_by (torn k c) (Scan.damaged n p) rs buffer ≡ refused (damaged of_second n p) buffer
  unfolding merge_by merge_refusals first_refusal settle_merge fault_of torn_of
  second_damaged_torn k c n p = refl

  -- then 16: the first's, also where both are torn, and the second's
  pub first_torn : (k c m d : ℕ) → merge_by (torn k c) (whole m d) rs buffer ≡ refused (declined_of of_first 16) buffer
  unfolding merge_by merge_refusals first_refusal settle_merge fault_of torn_of
  first_torn k c m d = refl

  pub both_torn : (k c m d : ℕ) → merge_by (torn k c) (torn m d) rs buffer ≡ refused (declined_of of_first 16) buffer
  unfolding merge_by merge_refusals first_refusal settle_merge fault_of torn_of
  both_torn k c m d = refl

  pub second_torn : (k c m d : ℕ) → merge_by (whole k c) (torn m d) rs buffer ≡ refused (declined_of of_second 16) buffer
  unfolding merge_by merge_refusals first_refusal settle_merge fault_of torn_of
  second_torn k c m d = refl

  -- ---- two whole journals

  module _ (k c m d : ℕ) where
    -- 13
    pub whole_falls : (p : ℕ) → fall_from 0 0 rs ≡ some p → merge_by (whole k c) (whole m d) rs buffer ≡ refused (declined_at 13 p) buffer
    unfolding merge_by merge_refusals first_refusal settle_merge fault_of torn_of fall_of
    whole_falls p h = rw (h, fall_of) refl

    module _ (h : fall_from 0 0 rs ≡ none) where
      -- then 9
      pub whole_long : min (length buffer) max_length < lengths_of rs → merge_by (whole k c) (whole m d) rs buffer ≡ refused (declined 9) buffer
      unfolding merge_by merge_refusals first_refusal settle_merge fault_of torn_of fall_of room_of
      whole_long l = rw (h, fall_of) (rw (lt-leb (lengths_of rs) (min (length buffer) max_length) l) refl)

      -- else the result
      pub whole_put : lengths_of rs ≤ min (length buffer) max_length → merge_by (whole k c) (whole m d) rs buffer ≡ put rs buffer
      unfolding merge_by merge_refusals first_refusal settle_merge fault_of torn_of fall_of room_of
      whole_put l = rw (h, fall_of) (rw (le-leb (lengths_of rs) (min (length buffer) max_length) l) refl)
