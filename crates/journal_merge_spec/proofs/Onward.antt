-- Demand 3's sentence from a merged journal, read off the theorem: after every list of calls of append on the third buffer, the merged records
-- stay shown and behind them stand those of the calls that finished; scan says torn exactly after a cut; each call is declined as the model
-- says, or answers a length; and an index of the merged journal is kept. Assumes nothing.
use mathlib.Core.Path.{◌≡◌, refl}
use mathlib.Core.Logic.{◌⊎◌, ◌↔◌}
use Prim.Native.Nat.{ℕ, ◌+◌, ◌≤◌, ◌<◌, min}
use mathlib.Core.List.{List, [], ◌∷◌, ◌++◌}
use mathlib.Core.Bool.{true}
use mathlib.Core.Option.{some}
use lib.ListN.{length, drop, get_or}
use Rattle.journal_spec.specs.Bytes.{AreBytes}
use Rattle.journal_spec.specs.Record.{Record, Last, record_bytes}
use Rattle.journal_spec.specs.Ranges.{RecordRanges}
use Rattle.journal_spec.specs.Profile.{plain}
use Rattle.journal_spec.specs.Read.{read_part, read_mark, unmarked}
use Rattle.journal_spec.specs.Index.{index_bytes, in_front, fresh_index}
use Rattle.journal_spec.specs.MakeIndex.{make_index_of}
use Rattle.journal_spec.specs.Request.{Journal, all, up_to, AppendResult, extended}
use Rattle.journal_spec.specs.Calls.{operations, Call, perform, journal_after, answers_of, Threaded}
use Rattle.journal_spec.specs.Model.{Model, lengths_of, committed_of, model_after}
use Rattle.journal_spec.specs.Shown.{finished, Takes, Finishes, Named}
use Rattle.journal_spec.specs.Cursor.{records_upto}
use Rattle.journal_spec.proofs.Demand.{Holds}
use Rattle.journal_spec.proofs.Shown.{blank, ShownFrom, shown_first_from, first_good_from, shown_record_from, shown_no_other, committed_sum_from}
use Rattle.journal_spec.proofs.Answers.{declined_exactly_from, taken_otherwise_from, answered_all_from, answered_upto_from}
use Rattle.journal_spec.proofs.Cut.{WrittenBehind, written_all_from, written_upto_from}
use Rattle.journal_spec.proofs.TornOrWhole.{CutLast, SaysTorn, SaysWhole, torn_exactly_from, whole_otherwise_from}
use Rattle.journal_spec.proofs.IndexAfter.{model_made, makes, index_finished_from, index_cut_from, index_declined_from}
use Rattle.journal_spec.proofs.Threaded.{NeverStale, never_stale_from}
use Rattle.journal_merge_spec.specs.Records.{merged_of}
use Rattle.journal_merge_spec.specs.Merge.{merged, merge_of}
use Rattle.journal_merge_spec.proofs.Merged.{model_of, merged_journal}

module _ (slice₁ : List ℕ) (len₁ : ℕ) (slice₂ : List ℕ) (len₂ : ℕ) (buffer : List ℕ) (b₁ : AreBytes slice₁) (b₂ : AreBytes slice₂)
    (n : ℕ) (h : (merge_of slice₁ len₁ slice₂ len₂ buffer).answer ≡ merged n) where
  -- the merged records, the model that starts with them, and the merged journal
  abbrev pub start_records : List Record
  start_records = merged_of (records_upto slice₁ len₁) (records_upto slice₂ len₂)

  abbrev pub start_model : Model
  start_model = model_of start_records

  abbrev pub start_journal : Journal
  start_journal = record { slice = (merge_of slice₁ len₁ slice₂ len₂ buffer).buffer; len = n }

  holds : Holds (length buffer) start_journal start_model
  holds = (merged_journal slice₁ len₁ slice₂ len₂ buffer b₁ b₂ n h).holds

  -- ---- after a list of calls

  module _ (cs : List Call) where
    abbrev pub journal_then : Journal
    journal_then = journal_after operations start_journal cs

    -- scan says torn exactly when the last call that was not declined wrote some but not all of its record
    pub merged_torn_exactly : SaysTorn (length buffer) start_journal start_model cs ↔ CutLast (length buffer) start_model cs
    merged_torn_exactly = torn_exactly_from (length buffer) start_journal start_model cs holds refl

    -- and whole otherwise
    pub merged_whole_otherwise : (CutLast (length buffer) start_model cs → ⊥) → SaysWhole (length buffer) start_journal start_model cs
    merged_whole_otherwise = whole_otherwise_from (length buffer) start_journal start_model cs holds refl

    -- the merged records stay shown, in their order
    pub merged_shown_first : (i : ℕ) → i < length start_records
        → read_part plain journal_then.slice journal_then.len i ≡ record_bytes (get_or start_records i blank)
    merged_shown_first = shown_first_from (length buffer) start_journal start_model holds cs

    -- each in the ranges, with the formula's bits for its limits
    pub merged_first_good : (i : ℕ) → i < length start_records → (last : Last) × RecordRanges last (get_or start_records i blank)
    merged_first_good = first_good_from (length buffer) start_journal start_model holds cs

    -- behind them those whose last byte was written, in that order, with what was given
    pub merged_shown_record : (k : ℕ) → k < length (finished (length buffer) start_model cs)
        → ShownFrom (length buffer) start_journal start_model cs (length start_records + k)
    merged_shown_record = shown_record_from (length buffer) start_journal start_model holds cs

    -- and no other
    pub merged_shown_no_other : (i : ℕ) → length start_records + length (finished (length buffer) start_model cs) ≤ i
        → (read_part plain journal_then.slice journal_then.len i ≡ []) × (read_mark plain journal_then.slice journal_then.len i ≡ unmarked 10)
    merged_shown_no_other = shown_no_other (length buffer) start_journal start_model holds cs

    -- the committed length is the sum of the lengths of the records shown
    pub merged_committed_sum : committed_of (model_after (length buffer) start_model cs) ≡ lengths_of (start_records ++ finished (length buffer) start_model cs)
    merged_committed_sum = committed_sum_from (length buffer) start_journal start_model holds cs

  -- ---- one call more

  module _ (cs : List Call) (c : Call) where
    -- the model before it
    abbrev pub model_then : Model
    model_then = model_after (length buffer) start_model cs

    -- an answer that is no length is given exactly where the papers name it for the call
    pub merged_declined_exactly : (a : AppendResult) → ((k : ℕ) → a ≡ extended k → ⊥)
        → ((perform operations (journal_then cs) c).answer ≡ a) ↔ Named (length buffer) model_then c.request a
    merged_declined_exactly = declined_exactly_from (length buffer) start_journal start_model holds cs c

    -- and a call for which they name none is taken
    pub merged_taken_otherwise : Takes (length buffer) model_then c.request ⊎ ((a : AppendResult) × Named (length buffer) model_then c.request a)
    merged_taken_otherwise = taken_otherwise_from (length buffer) start_journal start_model holds cs c

    -- it answers the committed length before it and the bytes of its record that were written
    pub merged_answered_all : (t : Takes (length buffer) model_then c.request) → c.request.budget ≡ all
        → (perform operations (journal_then cs) c).answer ≡ extended (committed_of model_then + length (record_bytes t.content))
    merged_answered_all = answered_all_from (length buffer) start_journal start_model holds cs c

    pub merged_answered_upto : (t : Takes (length buffer) model_then c.request) (k : ℕ) → c.request.budget ≡ up_to k
        → (perform operations (journal_then cs) c).answer ≡ extended (committed_of model_then + min k (length (record_bytes t.content)))
    merged_answered_upto = answered_upto_from (length buffer) start_journal start_model holds cs c

    -- and writes these bytes behind the records before it, and no other
    pub merged_written_all : (t : Takes (length buffer) model_then c.request) → c.request.budget ≡ all
        → WrittenBehind model_then t.content (length (record_bytes t.content)) (journal_then cs) (perform operations (journal_then cs) c).journal
    merged_written_all = written_all_from (length buffer) start_journal start_model holds cs c

    pub merged_written_upto : (t : Takes (length buffer) model_then c.request) (k : ℕ) → c.request.budget ≡ up_to k
        → WrittenBehind model_then t.content (min k (length (record_bytes t.content))) (journal_then cs) (perform operations (journal_then cs) c).journal
    merged_written_upto = written_upto_from (length buffer) start_journal start_model holds cs c

    -- the index handed: with the record finished it is the one of all records shown, and the bytes beyond it stay
    pub merged_index_finished : (b : List ℕ) → c.request.index ≡ some b → (f : Finishes (length buffer) model_then c)
        → let now = index_bytes (fresh_index (model_then.records ++ f.takes.content ∷ [])) in
        (perform operations (journal_then cs) c).index ≡ some (now ++ drop (length now) b)
    merged_index_finished = index_finished_from (length buffer) start_journal start_model holds cs c

    -- cut or declined: it is as it was
    pub merged_index_cut : (t : Takes (length buffer) model_then c.request) (k : ℕ) → c.request.budget ≡ up_to k
        → k < length (record_bytes t.content) → (perform operations (journal_then cs) c).index ≡ c.request.index
    merged_index_cut = index_cut_from (length buffer) start_journal start_model holds cs c

    pub merged_index_declined : (Takes (length buffer) model_then c.request → ⊥) → (perform operations (journal_then cs) c).index ≡ c.request.index
    merged_index_declined = index_declined_from (length buffer) start_journal start_model holds cs c

  -- ---- its index

  -- made afresh of the merged journal, it is the one of the merged records
  pub merged_made : (b : List ℕ) → make_index_of start_journal b ≡ model_made start_model b
  merged_made = makes (length buffer) start_journal start_model holds

  -- and, handed on from call to call, never refused by 14
  pub merged_never_stale : (b : List ℕ) → in_front (index_bytes (fresh_index start_records)) b ≡ true → (cs : List Call)
      → Threaded operations start_journal b cs → NeverStale (answers_of operations start_journal cs)
  merged_never_stale = never_stale_from (length buffer) start_journal start_model holds
