-- The merged journal. Its records are those of both inputs less the dropped ones, by day; scan of it is whole with their number and length;
-- and demand 3 holds from it, its model starting with those records. Assumes nothing.
use mathlib.Core.Path.{◌≡◌, sym, ap, ◌∙◌}
use Prim.Native.Nat.{ℕ, ◌+◌, ◌≤◌, min}
use mathlib.Core.List.{List, []}
use mathlib.Core.Bool.{Bool}
use native.Mathlib.Omega.{arith}
use native.Mathlib.Nat.{zero-add}
use lib.ListN.{length, take, drop}
use Rattle.journal_spec.specs.Bytes.{AreBytes}
use Rattle.journal_spec.specs.Record.{Record, records_bytes, last_of}
use Rattle.journal_spec.specs.Profile.{plain}
use Rattle.journal_spec.specs.Scan.{max_length, whole, scan_of}
use Rattle.journal_spec.specs.Append.{written}
use Rattle.journal_spec.specs.Calls.{operations, Call}
use Rattle.journal_spec.specs.Model.{Model, lengths_of, committed_of}
use Rattle.journal_spec.specs.Demand.{end_of, Demand3From}
use Rattle.journal_spec.specs.Cursor.{records_upto}
use Rattle.journal_spec.proofs.Cursor.{AllGood, follow_good}
use Rattle.journal_spec.specs.Ranges.{AllRanges}
use Rattle.journal_spec.proofs.Placing.{written_length, written_take, written_drop, lengths_are}
use Rattle.journal_spec.proofs.Demand.{Holds, agrees, plain_scan, holds_records, demand3_from}
use Rattle.journal_merge_spec.specs.Records.{dropped, undropped, merged_of}
use Rattle.journal_merge_spec.specs.Merge.{merged, MergeOutcome, merge_of}
use Rattle.journal_merge_spec.proofs.Tally.{tally}
use Rattle.journal_merge_spec.proofs.Dropping.{tally_undropped, length_undropped}
use Rattle.journal_merge_spec.proofs.ByDay.{DaysFrom, Stable, tally_by_day, length_by_day, sorted, stable}
use Rattle.journal_merge_spec.proofs.Following.{FormsFrom, follow_days, following, select_good, select_days, by_day_good}
use Rattle.journal_merge_spec.proofs.Answers.{answered}
use Rattle.journal_merge_spec.proofs.Inputs.{Whole, whole_scanned}

-- ---- the records of the result

module _ (first second : List Record) where
  -- by every test, the records of the result and the dropped ones are those of both
  pub merged_tally : (test : Record → Bool) → tally test (merged_of first second) + tally test (dropped first second) ≡ tally test first + tally test second
  unfolding merged_of
  merged_tally test = omega (arith, tally_by_day test first (undropped first second), tally_undropped test first second)

  -- in number
  pub merged_count : length (merged_of first second) + length (dropped first second) ≡ length first + length second
  unfolding merged_of
  merged_count = omega (arith, length_by_day first (undropped first second), length_undropped first second)

  module _ (f : AllRanges [] first) (g : AllRanges [] second) where
    days : DaysFrom 0 first
    unfolding last_of
    days = follow_days [] first f

    undropped_days : DaysFrom 0 (undropped first second)
    unfolding last_of undropped
    undropped_days = select_days _ second 0 (follow_days [] second g)

    -- days never fall
    pub merged_sorted : DaysFrom 0 (merged_of first second)
    unfolding merged_of
    merged_sorted = sorted first (undropped first second) 0 days undropped_days

    -- the first journal's records and the kept ones of the second, each in its own sequence, the first's first on equal days
    pub merged_stable : Stable first (undropped first second) (merged_of first second)
    unfolding merged_of
    merged_stable = stable first (undropped first second) 0 days

    merged_good : AllGood (merged_of first second)
    unfolding merged_of undropped
    merged_good = by_day_good first (undropped first second) (follow_good [] first f) (select_good _ second (follow_good [] second g))

    -- where forms do not fall, they may stand end to end in a journal
    pub merged_follow : FormsFrom 0 (merged_of first second) → AllRanges [] (merged_of first second)
    unfolding last_of
    merged_follow h = following [] (merged_of first second) merged_good merged_sorted h

-- ---- the merged journal

-- the model that starts with some records
abbrev pub model_of : List Record → Model
model_of rs = record { records = rs; tail = [] }

-- records put at a buffer's front, as a journal of their length
module _ (rs : List Record) (buffer : List ℕ) (f : AllRanges [] rs) (k : lengths_of rs ≤ min (length buffer) max_length) where
  n : 0 + length (records_bytes rs) ≡ lengths_of rs
  n = zero-add (length (records_bytes rs)) ∙ sym (lengths_are rs)

  enough : 0 + length (records_bytes rs) ≤ length buffer
  enough = omega (arith, n)

  put_bytes : take (lengths_of rs) (written buffer 0 (records_bytes rs)) ≡ records_bytes rs
  put_bytes = ap (λ (m : ℕ). take m (written buffer 0 (records_bytes rs))) (sym n) ∙ written_take buffer 0 (records_bytes rs) enough

  put_beyond : drop (lengths_of rs) (written buffer 0 (records_bytes rs)) ≡ drop (lengths_of rs) buffer
  put_beyond = rw (← n) (written_drop buffer 0 (records_bytes rs) enough)

  put_holds : Holds (length buffer) (record { slice = written buffer 0 (records_bytes rs); len = lengths_of rs }) (model_of rs)
  put_holds =
      let size : length (written buffer 0 (records_bytes rs)) ≡ length buffer = written_length buffer 0 (records_bytes rs) enough in
      rw size at (holds_records (written buffer 0 (records_bytes rs)) (lengths_of rs) rs (omega arith) (omega arith) put_bytes f)

  put_scan : scan_of plain (written buffer 0 (records_bytes rs)) (lengths_of rs) ≡ whole (length rs) (lengths_of rs)
  unfolding operations end_of committed_of
  put_scan = (agrees (length buffer) _ _ put_holds).scan plain ∙ plain_scan (model_of rs)

module _ (slice₁ : List ℕ) (len₁ : ℕ) (slice₂ : List ℕ) (len₂ : ℕ) (buffer : List ℕ) where
  -- the records of the inputs
  abbrev firsts : List Record
  firsts = records_upto slice₁ len₁

  abbrev seconds : List Record
  seconds = records_upto slice₂ len₂

  -- the third buffer after the merge
  abbrev after : List ℕ
  after = (merge_of slice₁ len₁ slice₂ len₂ buffer).buffer

  -- what holds where the merge answers the length n
  pub record MergedJournal (n : ℕ) : Type 0 where
    pub first : Whole slice₁ len₁
    pub second : Whole slice₂ len₂
    pub length' : n ≡ lengths_of (merged_of firsts seconds)
    pub rises : FormsFrom 0 (merged_of firsts seconds)
    pub bytes : take n after ≡ records_bytes (merged_of firsts seconds)
    pub beyond : drop n after ≡ drop n buffer
    pub holds : Holds (length buffer) (record { slice = after; len = n }) (model_of (merged_of firsts seconds))
    pub scan : scan_of plain after n ≡ whole (length (merged_of firsts seconds)) n
    pub count : length (merged_of firsts seconds) + length (dropped firsts seconds) ≡ length firsts + length seconds

  -- THE THEOREM: where the merge answers a length, the buffer holds the merged journal
  module _ (b₁ : AreBytes slice₁) (b₂ : AreBytes slice₂) (n : ℕ) (h : (merge_of slice₁ len₁ slice₂ len₂ buffer).answer ≡ merged n) where
    pub merged_journal : MergedJournal n
    merged_journal =
        let a = answered slice₁ len₁ slice₂ len₂ buffer (merged n) h in
        let d = a.0 in
        let w = whole_scanned slice₁ len₁ d.1.0 d.1.1 b₁ d.1.2 in
        let v = whole_scanned slice₂ len₂ d.2.0 d.2.1 b₂ d.2.2 in
        let f = merged_follow firsts seconds w.follow v.follow d.3 in
        let room : lengths_of (merged_of firsts seconds) ≤ min (length buffer) max_length = omega (arith, d.4.0, d.4.1) in
        let e : after ≡ written buffer 0 (records_bytes (merged_of firsts seconds)) = ap (λ (o : MergeOutcome). o.buffer) a.1 in
        record {
          first = w;
          second = v;
          length' = d.0;
          rises = d.3;
          bytes = rw (e, d.0) (put_bytes (merged_of firsts seconds) buffer f room);
          beyond = rw (e, d.0) (put_beyond (merged_of firsts seconds) buffer f room);
          holds = rw (e, d.0) (put_holds (merged_of firsts seconds) buffer f room);
          scan = rw (e, d.0) (put_scan (merged_of firsts seconds) buffer f room);
          count = merged_count firsts seconds;
        }

    -- demand 3 holds from the merged journal, its model starting with the merged records
    pub demand3_merged : (cs : List Call) → Demand3From operations (length buffer) (record { slice = after; len = n }) (model_of (merged_of firsts seconds)) cs
    demand3_merged cs = demand3_from (length buffer) _ _ merged_journal.holds cs
