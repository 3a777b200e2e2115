-- The merge's answers, by what the first pass says of two whole journals and by what both scans say. Assumes nothing.
use mathlib.Core.Path.{◌≡◌, refl, sym, subst, ◌∙◌}
use Prim.Native.Nat.{ℕ, ◌≤◌, ◌<◌, min}
use mathlib.Core.List.{List, []}
use mathlib.Core.Option.{Option, none, some}
use native.Mathlib.Omega.{arith}
use lib.ListN.{length, take, get_or}
use lib.Seq.{length-take-le}
use Rattle.journal_spec.specs.Bytes.{AreBytes}
use Rattle.journal_spec.specs.Record.{Record, records_bytes}
use Rattle.journal_spec.specs.Profile.{plain}
use Rattle.journal_spec.specs.Scan.{max_length, whole, scan_of}
use Rattle.journal_spec.specs.Append.{written}
use Rattle.journal_spec.specs.Model.{lengths_of}
use Rattle.journal_spec.specs.Cursor.{records_upto, records_in}
use Rattle.journal_spec.proofs.Numbers.{are_bytes}
use Rattle.journal_spec.proofs.Cursor.{follow_good, cursor_start}
use Rattle.journal_spec.proofs.Whole.{WholeBytes}
use Rattle.journal.specs.Answers.{meaning}
use Rattle.journal.specs.declared.Status.{Status}
use Rattle.journal.specs.declared.Status.TheVariants as J
use Rattle.journal_merge_spec.specs.Records.{merged_of, fall_from}
use Rattle.journal_merge_spec.specs.Merge.{fault_of, torn_of, merge_refusals, first_refusal, merge_by, merge_of}
use Rattle.journal_merge_spec.proofs.Inputs.{Whole, whole_scanned, whole_alone}
use Rattle.journal_merge_spec.proofs.Rows.{first_damaged, second_damaged, second_damaged_torn, first_torn}
use Rattle.journal_merge_spec.proofs.Rows.{both_torn, second_torn, whole_falls, whole_long, whole_put}
use Rattle.journal_merge.specs.Passes.{measured_by, measured_of, whole_outcome}
use Rattle.journal_merge.specs.Answers.{whose_of, answer_of, outcome_of, torn_end, is_torn, inputs_by, inputs_of}
use Rattle.journal_merge.specs.declared.Whose.TheVariants as WV
use mathlib.Core.Bool.{Bool, true, false}
use Rattle.journal_merge.specs.declared.MergeError.{MergeError}
use Rattle.journal_merge.specs.declared.MergeError.TheVariants as E
use Rattle.std.proofs.Common.{Result, Ok, Err}
use Rattle.refusals.specs.Refusals.{number_of}
use Rattle.refusals.specs.declared.Refusal.TheVariants.{OldForm, Room}

-- ---- two whole journals, by what the first pass says

-- the rows of the inputs do not hold
pub whole_rows : (k c m d : ℕ) (rs : List Record) (buffer : List ℕ) → merge_by (whole k c) (whole m d) rs buffer ≡ whole_outcome rs buffer
unfolding merge_by merge_refusals first_refusal fault_of torn_of whole_outcome
whole_rows k c m d rs buffer = refl

measured_ok : (rs : List Record) (n : ℕ) → Ok n ≡ measured_of rs → (fall_from 0 0 rs ≡ none) × (lengths_of rs ≡ n)
unfolding measured_of
measured_ok rs n h = go (fall_from 0 0 rs) h
  where
    go : (f : Option ℕ) → Ok n ≡ measured_by f (lengths_of rs) → (f ≡ none) × (lengths_of rs ≡ n)
    go none h = unfold measured_by in (refl, cc)
    go (some q) h = unfold measured_by in let z : ◌≡◌ {A = ℕ} 0 1 = cc in absurd (omega arith)

module _ (rs : List Record) (buffer : List ℕ) where
  -- a form falls
  pub outcome_falls : (e : MergeError) → Err e ≡ measured_of rs → outcome_of (Err e) buffer ≡ whole_outcome rs buffer
  unfolding measured_of
  outcome_falls e h = go (fall_from 0 0 rs) refl h
    where
      go : (f : Option ℕ) → fall_from 0 0 rs ≡ f → Err e ≡ measured_by f (lengths_of rs) → outcome_of (Err e) buffer ≡ whole_outcome rs buffer
      go none k h = unfold measured_by in let z : ◌≡◌ {A = ℕ} 0 1 = cc in absurd (omega arith)
      go (some p) k h =
          unfold measured_by outcome_of answer_of in
          let is : e ≡ E.DeclinedAt (record { refusal = OldForm; place = p }) = cc in
          rw is (sym (whole_falls rs buffer 0 0 0 0 p k) ∙ whole_rows 0 0 0 0 rs buffer)

  module _ (n : ℕ) (h : Ok n ≡ measured_of rs) where
    pub outcome_length : lengths_of rs ≡ n
    outcome_length = (measured_ok rs n h).1

    pub outcome_no_room : min (length buffer) max_length < n → outcome_of (Err (E.Declined Room)) buffer ≡ whole_outcome rs buffer
    unfolding outcome_of answer_of
    outcome_no_room k =
        sym (whole_long rs buffer 0 0 0 0 (measured_ok rs n h).0 (omega (arith, outcome_length))) ∙ whole_rows 0 0 0 0 rs buffer

    pub outcome_put : n ≤ min (length buffer) max_length → (after : List ℕ) → after ≡ written buffer 0 (records_bytes rs)
        → outcome_of (Ok n) after ≡ whole_outcome rs buffer
    unfolding outcome_of answer_of
    outcome_put k after e =
        rw (e, ← outcome_length)
        (sym (whole_put rs buffer 0 0 0 0 (measured_ok rs n h).0 (omega (arith, outcome_length))) ∙ whole_rows 0 0 0 0 rs buffer)

-- ---- what the scans say

-- by what the code was told of each
pub inputs_first : (x y : Status) (e : MergeError) → Err e ≡ is_torn x WV.First → Err e ≡ inputs_of x y
unfolding inputs_of inputs_by
inputs_first x y e h = rw (← h) refl

pub inputs_both : (x y : Status) (t u : Bool) → Ok t ≡ is_torn x WV.First → Ok u ≡ is_torn y WV.Second → inputs_of x y ≡ inputs_by (Ok t) (Ok u)
unfolding inputs_of
inputs_both x y t u h k = rw (← h, ← k) refl

pub inputs_second : (x y : Status) (t : Bool) (e : MergeError) → Ok t ≡ is_torn x WV.First → Err e ≡ is_torn y WV.Second → Err e ≡ inputs_of x y
unfolding inputs_of
inputs_second x y t e h k = rw (← h, ← k) (go t)
  where
    go : (t : Bool) → Err e ≡ inputs_by (Ok t) (Err e)
    go true = unfold inputs_by in refl
    go false = unfold inputs_by in refl

pub first_ends_torn : (u : Bool) → Err (torn_end WV.First) ≡ inputs_by (Ok true) (Ok u)
unfolding inputs_by
first_ends_torn true = refl
first_ends_torn false = refl

-- a whole journal's bytes, as the passes ask for them
whole_bytes : (slice : List ℕ) (len : ℕ) → Whole slice len → WholeBytes (take len slice)
whole_bytes slice len w =
    let n : length (take len slice) ≡ len = length-take-le len slice (omega (arith, w.fits)) in
    record {
      cursor =
          rw (whole_alone slice len w)
          (cursor_start (take len slice) (records_upto slice len) w.bytes (follow_good [] (records_upto slice len) w.follow));
      follow = rw (whole_alone slice len w) w.follow;
      short = omega (arith, n, w.fits);
    }

module _ (v : List ℕ) (len : ℕ) (u : List ℕ) (wlen : ℕ) (buffer : List ℕ) where
  -- both journals are whole
  pub record Ready : Type 0 where
    pub first : WholeBytes (take len v)
    pub second : WholeBytes (take wlen u)
    pub fits : len ≤ length v
    pub fits' : wlen ≤ length u
    pub outcome : merge_of v len u wlen buffer ≡ whole_outcome (merged_of (records_in (take len v)) (records_in (take wlen u))) buffer

  -- what the inputs say of the merge
  abbrev pub Means : Result (Unit {0}) MergeError → Type 0
  Means (Ok u) = Ready
  Means (Err e) = outcome_of (Err e) buffer ≡ merge_of v len u wlen buffer

  abbrev result : List Record
  result = merged_of (records_upto v len) (records_upto u wlen)

  ready : (w : Whole v len) (x : Whole u wlen) (n c m d : ℕ) → scan_of plain v len ≡ whole n c → scan_of plain u wlen ≡ whole m d → Ready
  unfolding merge_of
  ready w x n c m d p q = record {
    first = whole_bytes v len w;
    second = whole_bytes u wlen x;
    fits = omega (arith, w.fits);
    fits' = omega (arith, x.fits);
    outcome = rw (p, q, whole_alone v len w, whole_alone u wlen x) (whole_rows n c m d result buffer);
  }

  means : AreBytes v → AreBytes u → (x y : Status) → meaning x ≡ scan_of plain v len → meaning y ≡ scan_of plain u wlen → Means (inputs_of x y)
  unfolding merge_of meaning is_torn inputs_by inputs_of outcome_of answer_of whose_of
  means bv bu (J.Damaged f) y p q = rw (← p) (sym (first_damaged result buffer (number_of f.refusal) f.place (scan_of plain u wlen)))
  means bv bu (J.Whole n c) (J.Damaged f) p q = rw (← p, ← q) (sym (second_damaged result buffer n c (number_of f.refusal) f.place))
  means bv bu (J.Torn n c) (J.Damaged f) p q = rw (← p, ← q) (sym (second_damaged_torn result buffer n c (number_of f.refusal) f.place))
  means bv bu (J.Torn n c) (J.Whole m d) p q = rw (← p, ← q) (sym (first_torn result buffer n c m d))
  means bv bu (J.Torn n c) (J.Torn m d) p q = rw (← p, ← q) (sym (both_torn result buffer n c m d))
  means bv bu (J.Whole n c) (J.Torn m d) p q = rw (← p, ← q) (sym (second_torn result buffer n c m d))
  means bv bu (J.Whole n c) (J.Whole m d) p q =
      ready (whole_scanned v len n c bv (sym p)) (whole_scanned u wlen m d bu (sym q)) n c m d (sym p) (sym q)

  -- by the bytes of both slices, the scans' answers, and what was made of them
  pub means_by : ((i : ℕ) → get_or v i 0 < 256) → ((i : ℕ) → get_or u i 0 < 256) → (x y : Status) → meaning x ≡ scan_of plain v len → meaning y ≡ scan_of plain u wlen
      → (t : Result (Unit {0}) MergeError) → t ≡ inputs_of x y → Means t
  means_by hv hu x y p q t e = subst Means (sym e) (means (are_bytes v hv) (are_bytes u hu) x y p q)
