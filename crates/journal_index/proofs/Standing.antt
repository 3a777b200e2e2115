-- What the pass over a journal says, as an append that is handed an index goes on from it: the committed bytes, their records and their index.
-- Assumes nothing.
use mathlib.Core.Path.{◌≡◌, refl, sym, ap, ◌∙◌}
use Prim.Native.Nat.{ℕ, ◌+◌, ◌*◌, ◌≤◌, ◌<◌}
use mathlib.Core.List.{List}
use mathlib.Core.Bool.{Bool, true, false, cond, not}
use mathlib.Core.Option.{some}
use native.Mathlib.Omega.{arith}
use lib.ListN.{length, take, get_or, length-map}
use lib.Seq.{length-take-le}
use lib.Dec.{leb}
use borrow.Author.Tests.{not-true, not-false}
use Rattle.limit.specs.Times.{max_count}
use Rattle.journal_spec.specs.Refusals.{first_of}
use Rattle.journal_spec.specs.Record.{Last, last_of, max_name, max_chances, record_bytes}
use Rattle.journal_spec.specs.Profile.{Rule}
use Rattle.journal_spec.specs.Scan.{records_of, standing, contents_of}
use Rattle.journal_spec.specs.Index.{index_bytes}
use Rattle.journal_spec.specs.Log.{gathered}
use Rattle.journal_spec.specs.Request.{Budget, times, Request, request_of, gather_by, times_of, gathered_times, offer_of, allowed, Outcome}
use Rattle.journal_spec.specs.Append.{limits_of, offered, next_index, append_refusals, written, unchanged, append_to, append_of}
use Rattle.journal_spec.proofs.Numbers.{are_bytes}
use Rattle.journal_spec.proofs.Records.{length_record}
use Rattle.journal_spec.proofs.Places.{records_of_placed}
use Rattle.journal_spec.proofs.Logs.{append_read}
use Rattle.journal_spec.proofs.Whole.{WholeBytes, Committed, committed_bytes}
use Rattle.journal.specs.declared.Fault.{Fault}
use Rattle.std.specs.Prelude.{Result, Ok, Err}
use Rattle.refusals.specs.declared.Refusal.{Refusal}
use Rattle.journal.specs.declared.contents.Contents.{Contents}
use Rattle.journal.specs.declared.AppendError.{AppendError}
use Rattle.journal.specs.declared.AppendError.TheVariants as A
use Rattle.journal.specs.Told.{by_number, Judged}
use Rattle.journal.specs.Records.{as_last}
use Rattle.journal.specs.Contents.{contents_read}
use Rattle.journal.specs.Answers.{append_meaning, length_after, outcome_with}
use Rattle.journal.proofs.Answering.{Stood, stood, faulted, last_kept}
use Rattle.journal.proofs.RefusalOrder.{Few, offer_few}
use Rattle.journal_entries.specs.Amending.{amended_in}
use Rattle.journal_index.specs.Outcome.{indexed_outcome}
use Rattle.journal_index.specs.Standing.{placed_in, index_in, Stands, refusal_in}
use Rattle.journal_index.proofs.Appending.{index_rows, JudgedBy, declined_first, declined_then, none_declines, index_none, offer_none}
use Rattle.journal_index.proofs.Room.{rows_of, amended_in_lem}

-- ---- from the pass on

module _ (rule : Rule) (v : List ℕ) (len i : ℕ) (x : Result Contents Fault) (read : by_number x ≡ contents_read i (contents_of rule v len)) where
  module _ (all : (i : ℕ) → get_or v i 0 < 256) (c : Contents) (told : x ≡ Ok c) where
    s : Stood (contents_of rule v len) i c
    s = stood rule v len i x read c told

    upto : Committed v s.ps c.committed
    upto = committed_bytes rule v len s.ps c.committed (are_bytes v all) s.is

    pub stands : Stands v c.committed (as_last c.last)
    stands = record {
      fits = upto.fits;
      whole = upto.whole;
      ends = ap as_last s.ends ∙ last_kept (last_of (records_of s.ps)) ∙ ap (λ ps. last_of (records_of ps)) upto.places
          ∙ ap last_of (records_of_placed 0 _);
    }

    pub appends : (q : Request) (ts : List ℕ) → q.rule ≡ rule → times_of q ≡ gathered ts → (out : Outcome)
        → out ≡ append_to (standing (placed_in (take c.committed v)) c.committed) (record { slice = v; len = len }) q
        → out ≡ append_of (record { slice = v; len = len }) q
    appends q ts by is out e =
        e
        ∙ ap (λ k. append_to k (record { slice = v; len = len }) q) (sym (rw by (s.is ∙ ap (λ ps. standing ps c.committed) upto.places)))
        ∙ append_read (record { slice = v; len = len }) q ts is

  pub appends_damaged : (f : Fault) → x ≡ Err f → (q : Request) (ts b : List ℕ) → q.rule ≡ rule → times_of q ≡ gathered ts → q.index ≡ some b
      → indexed_outcome len (Err (A.Damaged f)) v b ≡ append_of (record { slice = v; len = len }) q
  unfolding append_to outcome_with append_meaning length_after unchanged
  appends_damaged f told q ts b by is handed =
      rw (← append_read (record { slice = v; len = len }) q ts is, by, faulted rule v len i x read f told, handed) refl

-- ---- what stands

pub ends_placed : (v : List ℕ) (committed : ℕ) (last : Last) → Stands v committed last → last ≡ last_of (records_of (placed_in (take committed v)))
ends_placed v committed last s = s.ends ∙ ap last_of (sym (records_of_placed 0 _))

-- ---- after the call with a budget of nothing

module _ {v : List ℕ} {committed len day : ℕ} {name chances ts : List ℕ} {budget : Budget} {rule : Rule} {b : List ℕ} {r : Result ℕ AppendError}
    {after : List ℕ}
    (t : JudgedBy (record { slice = v; len = len }) (placed_in (take committed v)) committed
    (request_of day name chances (times ts) budget rule (some b)) b refl r after) where
  abbrev asked : Request
  asked = request_of day name chances (times ts) budget rule (some b)

  -- what the call with the index comes to
  abbrev outcome : Outcome
  outcome = append_to (standing (placed_in (take committed v)) committed) (record { slice = v; len = len }) asked

  -- the rows of the index
  same_rows : first_of (rows_of (take committed after) name b committed)
      ≡ first_of (index_rows (record { slice = v; len = len }) (placed_in (take committed v)) committed asked b refl)
  unfolding index_rows next_index offer_of index_in
  same_rows = rw t.same refl

  -- declined by a row of the journal's
  pub judged_first : (f : Refusal) → r ≡ Err (A.Declined f) → indexed_outcome len (Err (A.Declined f)) after b ≡ outcome
  unfolding refusal_in append_meaning
  judged_first f d =
      ap (λ (s : List ℕ). indexed_outcome len (Err (A.Declined f)) s b) t.same
      ∙ declined_first (record { slice = v; len = len }) (placed_in (take committed v)) committed asked b refl f _
      (sym (ap (λ (x : Result ℕ AppendError). refusal_in (append_meaning x)) d) ∙ t.refusal) (t.declines f d) refl

  module _ (none : refusal_in (append_meaning r) ≡ 0) where
    -- by one of the index's
    pub judged_then : (f : Refusal) → Judged {A = Unit {0}} (Err f) (first_of (rows_of (take committed after) name b committed))
        → indexed_outcome len (Err (A.Declined f)) after b ≡ outcome
    judged_then f d =
        ap (λ (s : List ℕ). indexed_outcome len (Err (A.Declined f)) s b) t.same
        ∙ declined_then (record { slice = v; len = len }) (placed_in (take committed v)) committed asked b refl f _ d.0 d.1 (sym t.refusal ∙ none) same_rows

    -- by none
    pub judged_none : (last : Last) → Stands v committed last → first_of (rows_of (take committed after) name b committed) ≡ 0
        → Stands after committed last × (first_of (append_refusals (length after) (placed_in (take committed after)) committed asked) ≡ 0)
    judged_none last s z =
        rw t.same
        (s, none_declines (record { slice = v; len = len }) (placed_in (take committed v)) committed asked b refl (sym t.refusal ∙ none) (sym same_rows ∙ z))

  -- no byte has changed
  pub judged_fits : (last : Last) → Stands v committed last → committed ≡ length (take committed after)
  judged_fits last s = rw t.same (sym (length-take-le committed v s.fits))

  pub judged_whole : (last : Last) → Stands v committed last → WholeBytes (take committed after)
  judged_whole last s = rw t.same s.whole

  pub judged_writes : (out : Outcome) → out ≡ append_to (standing (placed_in (take committed after)) committed) (record { slice = after; len = len }) asked
      → out ≡ outcome
  judged_writes out e =
      e ∙ ap (λ (s : List ℕ). append_to (standing (placed_in (take committed s)) committed) (record { slice = s; len = len }) asked) t.same

-- ---- an offer that nothing declines

module _ (v : List ℕ) (committed len : ℕ) (day : ℕ) (name chances ts : List ℕ) (budget : Budget) (rule : Rule) (b : List ℕ) where
  abbrev q : Request
  q = request_of day name chances (times ts) budget rule (some b)

  module _ (last : Last) (s : Stands v committed last) (z : first_of (append_refusals (length v) (placed_in (take committed v)) committed q) ≡ 0) where
    abbrev leaf : List ℕ
    leaf = record_bytes (offered (offer_of q))

    few : Few (offer_of q)
    few = offer_few rule _ (offer_of q) (offer_none (record { slice = v; len = len }) (placed_in (take committed v)) committed q b refl z)

    pub counts : (length name ≤ max_name) × (length chances ≤ max_chances) × (length ts ≤ max_count)
    unfolding offer_of gathered_times times_of gather_by
    counts = (few.name, few.chances, few.times)

    -- the record's size by its counts
    sized : 12 + length name + 12 * length chances + 4 * length ts ≡ length leaf
    unfolding offered limits_of offer_of gathered_times times_of gather_by
    sized = sym (length_record (offered (offer_of q)) ∙ rw length-map (omega arith))

    -- the index's buffer after the call, by whether the record is finished
    abbrev after : List ℕ
    after = cond (leb (length leaf) (allowed budget (length leaf))) (written b 0 (index_bytes (next_index (placed_in (take committed v)) committed (offer_of q)))) b

    module _ (size : ℕ) (by : size ≡ 12 + length name + 12 * length chances + 4 * length ts) (finished : Bool)
        (is : finished ≡ leb size (allowed budget size)) where
      told : (t : Bool) → finished ≡ t → leb (length leaf) (allowed budget (length leaf)) ≡ t
      told t e = sym (ap (λ (n : ℕ). leb n (allowed budget n)) (by ∙ sized)) ∙ sym is ∙ e

      pub index_left : not finished ≡ true → b ≡ after
      index_left h = rw (told false (not-true finished h)) refl

      pub index_amended : not finished ≡ false → (left : List ℕ) → left ≡ amended_in (record { name = name; start = committed }) b → left ≡ after
      unfolding next_index offer_of index_in index_rows
      index_amended h left e =
          e ∙ amended_in_lem (take committed v) name b s.whole committed
          (index_none (record { slice = v; len = len }) (placed_in (take committed v)) committed q b refl z)
          ∙ rw (told true (not-false finished h)) refl
