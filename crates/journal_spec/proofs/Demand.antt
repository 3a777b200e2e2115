-- Demand 3, the theorem of the whole list: for every slice and every list of calls, the answers and the journal after them are the model's.
-- The induction goes from any journal that holds what a model says, so that a list may start from a journal that was made otherwise.
-- Assumes nothing.
use mathlib.Core.Path.{◌≡◌, refl, sym, ap, ap₂, ◌∙◌}
use Prim.Native.Nat.{ℕ, zero, suc, ◌+◌, ◌-◌, ◌≤◌, ◌<◌, min, max}
use mathlib.Core.List.{List, [], ◌∷◌, ◌++◌, append_assoc, append-nil}
use mathlib.Core.Bool.{cond}
use mathlib.Core.Option.{Option, none, some}
use native.Mathlib.Omega.{arith}
use native.Mathlib.Nat.{add-zero, zero-add}
use lib.ListN.{length, take, drop, length-append, take-append-drop}
use lib.Seq.{take_all, take_at, take-take, drop-drop, length-take-le}
use lib.Dec.{leb, eqb}
use borrow.Author.Tests.{le-leb, lt-leb, eq-eqb, ne_eqb}
use Rattle.facts.proofs.Orders.{by_order}
use Rattle.journal_spec.specs.Bytes.{joined}
use Rattle.journal_spec.specs.Refusals.{profile_refusal}
use Rattle.journal_spec.specs.Record.{Record, IsDay, last_of, record_reader, record_bytes, records_bytes}
use Rattle.journal_spec.specs.Scan.{max_length, standing, contents_of, damaged, status_of, scan_of}
use Rattle.journal_spec.specs.Profile.{Rule, plain}
use Rattle.journal_spec.specs.Read.{no_part, part_of, part_place, part_bytes, read_part, unmarked, mark_in, read_mark}
use Rattle.journal_spec.specs.Index.{fresh_index}
use Rattle.journal_spec.specs.Log.{Gathered, gathered, misread}
use Rattle.journal_spec.specs.Request.{Journal, Request, Offer, times_of, offer_of, allowed, AppendResult, extended, Outcome}
use Rattle.journal_spec.specs.Append.{offered, written, unchanged, put_index, next_index, extend, settle, append_to, append_with, append_of}
use Rattle.journal_spec.specs.Calls.{operations, Call, empty_in, perform, journal_after, answers_of, indexes_of, reach_of}
use Rattle.journal_spec.specs.Model.{Model, empty_model, lengths_of, committed_of, record_for, Entry, enter_record, enter_by, enter}
use Rattle.journal_spec.specs.Model.{Verdict, taken, break_of, by_number, by_log, by_break, first_turned, verdict_of}
use Rattle.journal_spec.specs.Model.{model_refusal, model_after, model_answers, model_indexes, refreshed}
use Rattle.journal_spec.specs.Demand.{end_of, model_scan, bytes_at, record_mark, model_part, model_mark, Agrees, Demand3From, Demand3}
use Rattle.journal_spec.specs.Ranges.{RecordRanges, AllRanges}
use Rattle.journal_spec.proofs.Reading.{reads_cut}
use Rattle.journal_spec.proofs.Limits.{formula_bits, sample_known}
use Rattle.journal_spec.proofs.SameRefusals.{same_next, same_refusal, same_record, same_length}
use Rattle.journal_spec.proofs.Ranged.{passed, fits_room, accepted_exactly, good_record, good_exactly, reads_back}
use Rattle.journal_spec.proofs.Scanning.{Torn, last_form_lem, follow_snoc, torn_none, records_snoc}
use Rattle.journal_spec.proofs.Places.{placed_from, length_placed}
use Rattle.journal_spec.proofs.Scanning.{unless_broken, contents_of_lem, plain_keeps}
use Rattle.journal_spec.proofs.Placing.{written_length, written_take, written_drop, lengths_are, part_bytes_lem, mark_placed}

-- ---- a journal that holds what a model says

pub record Holds (room : ℕ) (j : Journal) (m : Model) : Type 0 where
  pub slice : length j.slice ≡ room
  pub len : j.len ≡ committed_of m + length m.tail
  pub fits : j.len ≤ room
  pub most : j.len ≤ max_length
  pub bytes : take j.len j.slice ≡ records_bytes m.records ++ m.tail
  pub follow : AllRanges [] m.records
  pub torn : Torn m.records m.tail

module _ (room : ℕ) (j : Journal) (m : Model) (h : Holds room j m) where
  pub held : (rule : Rule)
      → contents_of rule j.slice j.len ≡ unless_broken (break_of rule m) (standing (placed_from 0 m.records) (committed_of m))
  unfolding committed_of break_of
  held rule =
      contents_of_lem rule j.slice j.len m.records m.tail (omega (arith, h.slice, h.fits)) h.most h.bytes
      (h.len ∙ rw (lengths_are m.records, length-append) refl) h.follow h.torn
      ∙ rw (lengths_are m.records) refl

  -- all of the length is committed exactly where the torn tail is empty
  tail_test : eqb (committed_of m) j.len ≡ eqb (length m.tail) 0
  tail_test = go (length m.tail) refl
    where
      go : (n : ℕ) → length m.tail ≡ n → eqb (committed_of m) j.len ≡ eqb (length m.tail) 0
      go zero e = eq-eqb (committed_of m) j.len (omega (arith, h.len)) ∙ sym (eq-eqb (length m.tail) 0 e)
      go (suc n) e = ne_eqb (committed_of m) j.len (λ x. omega (arith, h.len)) ∙ sym (ne_eqb (length m.tail) 0 (λ x. omega arith))

  held_scan : (rule : Rule) → scan_of rule j.slice j.len ≡ model_scan rule m
  unfolding scan_of model_scan
  held_scan rule = rw (held rule) (go (break_of rule m))
    where
      go : (b : Option ℕ) → status_of j.len (unless_broken b (standing (placed_from 0 m.records) (committed_of m)))
          ≡ elim b [ none ↦ end_of m | some at ↦ damaged profile_refusal at ]
      go none = unfold unless_broken status_of end_of in rw (length_placed, tail_test) refl
      go (some at) = unfold unless_broken status_of in refl

  held_part : (rule : Rule) (i : ℕ) → read_part rule j.slice j.len i ≡ model_part rule m i
  unfolding read_part part_place model_part
  held_part rule i = rw (held rule) (go (break_of rule m))
    where
      go : (b : Option ℕ) → part_bytes j.slice (part_of (unless_broken b (standing (placed_from 0 m.records) (committed_of m))) i)
          ≡ elim b [ none ↦ bytes_at m.records i | some at ↦ [] ]
      go none =
          unfold unless_broken part_of in
          part_bytes_lem j.slice 0 m.records (m.tail ++ drop j.len j.slice)
          (sym (take-append-drop j.len j.slice) ∙ rw (h.bytes, append_assoc) refl)
          i
      go (some at) = unfold unless_broken part_of part_bytes no_part in refl

  held_mark : (rule : Rule) (i : ℕ) → read_mark rule j.slice j.len i ≡ model_mark rule m i
  unfolding read_mark model_mark
  held_mark rule i = rw (held rule) (go (break_of rule m))
    where
      go : (b : Option ℕ) → mark_in (unless_broken b (standing (placed_from 0 m.records) (committed_of m))) i
          ≡ elim b [ none ↦ record_mark m.records i | some at ↦ unmarked profile_refusal ]
      go none = unfold unless_broken mark_in in mark_placed 0 m.records i
      go (some at) = unfold unless_broken mark_in in refl

  pub agrees : Agrees operations room j m
  unfolding operations
  agrees = record {
    slice_length = h.slice;
    len = h.len;
    bytes = h.bytes;
    scan = held_scan;
    part = held_part;
    mark = held_mark;
  }

-- by the plain rule the model's answers are those of its records
module _ (m : Model) where
  pub plain_scan : model_scan plain m ≡ end_of m
  unfolding model_scan break_of
  plain_scan = rw (plain_keeps 0 m.records, model_scan) refl

  pub plain_part : (i : ℕ) → model_part plain m i ≡ bytes_at m.records i
  unfolding model_part break_of
  plain_part i = rw (plain_keeps 0 m.records, model_part) refl

  pub plain_mark : (i : ℕ) → model_mark plain m i ≡ record_mark m.records i
  unfolding model_mark break_of
  plain_mark i = rw (plain_keeps 0 m.records, model_mark) refl

-- ---- what is written after the committed length

module _ (room : ℕ) (j : Journal) (m : Model) (h : Holds room j m) (new : List ℕ) (fits : committed_of m + length new ≤ min room max_length) where
  enough : committed_of m + length new ≤ length j.slice
  enough = omega (arith, h.slice)

  committed_part : take (committed_of m) j.slice ≡ records_bytes m.records
  unfolding committed_of
  committed_part =
      sym (take-take (committed_of m) j.len j.slice (omega (arith, h.len)))
      ∙ ap (take (committed_of m)) h.bytes
      ∙ take_at (records_bytes m.records) m.tail (committed_of m) (sym (lengths_are m.records))

  holds_new : (m' : Model) → records_bytes m'.records ++ m'.tail ≡ records_bytes m.records ++ new
      → AllRanges [] m'.records → Torn m'.records m'.tail
      → Holds room (record { slice = written j.slice (committed_of m) new; len = committed_of m + length new }) m'
  unfolding committed_of
  holds_new m' e f t = record {
    slice = written_length j.slice (committed_of m) new enough ∙ h.slice;
    len =
        rw (lengths_are m.records, lengths_are m'.records)
        (sym (length-append (records_bytes m.records) new) ∙ ap length (sym e) ∙ length-append (records_bytes m'.records) m'.tail);
    fits = omega arith;
    most = omega arith;
    bytes = written_take j.slice (committed_of m) new enough ∙ rw (committed_part, e) refl;
    follow = f;
    torn = t;
  }

-- ---- one call

-- a call's outcome against the model's entry
pub record Step (room : ℕ) (j : Journal) (out : Outcome) (entry : Entry) : Type 0 where
  pub answer : out.answer ≡ entry.answer
  pub index : out.index ≡ entry.index
  pub holds : Holds room out.journal entry.model
  pub beyond : drop out.journal.len out.journal.slice ≡ drop out.journal.len j.slice

module _ (room : ℕ) (j : Journal) (m : Model) (h : Holds room j m) (q : Request) (fits : IsDay q.day) (k : ℕ) where
  abbrev o : Offer
  o = offer_of q

  abbrev bytes : List ℕ
  bytes = record_bytes (record_for o)

  -- the index's buffer with the record finished
  abbrev finished : Option (List ℕ)
  finished = put_index (next_index (placed_from 0 m.records) (committed_of m) o) q.index

  put_fresh : (index : Option (List ℕ))
      → put_index (next_index (placed_from 0 m.records) (committed_of m) o) index ≡ refreshed (fresh_index (m.records ++ record_for o ∷ [])) index
  unfolding put_index refreshed written
  put_fresh none = refl
  put_fresh (some b) = rw (same_next m o, zero-add) refl

  -- what append does with its first k bytes, and what the model enters
  abbrev Settled : Type 0
  Settled = Step room j
      (settle (model_refusal room m q) j q.index (committed_of m) (take k (record_bytes (offered o))) (cond (leb (length bytes) k) finished q.index))
      (enter_by (by_number (model_refusal room m q)) m (record_for o) k q.index)

  step_declined : (n : ℕ) → model_refusal room m q ≡ suc n → Settled
  unfolding by_number enter_by settle unchanged
  step_declined n e = rw e (record { answer = refl; index = refl; holds = h; beyond = refl })

  module _ (e : model_refusal room m q ≡ 0) where
    -- the offer is the model's record, which nothing refuses, and there is room for it
    good : RecordRanges (last_of m.records) (record_for o)
    unfolding record_for formula_bits last_of
    good =
        let p = passed room m q e in
        let a = (accepted_exactly room m q).0 e in
        (good_exactly (last_of m.records) (record_for o)).0
        (good_record (last_of m.records) (record_for o) sample_known (last_form_lem [] m.records h.follow (omega arith)) (unfold offer_of in a.0)
        (unfold offer_of in fits) p.name p.chances p.times refl)

    same : record_bytes (offered o) ≡ bytes
    same = let p = passed room m q e in ap record_bytes (same_record o p.chances p.times)

    room_for_lem : committed_of m + length bytes ≤ min room max_length
    room_for_lem = let f = fits_room room m q e in omega (arith, f.0, f.1)

    -- the outcome where `new` is what is written, and the model's entry
    step_written : (new : List ℕ) (m' : Model) (index : Option (List ℕ)) → take k bytes ≡ new → length new ≤ length bytes
        → enter_record m (record_for o) k q.index ≡ record { answer = extended (committed_of m + length new); model = m'; index = index }
        → cond (leb (length bytes) k) finished q.index ≡ index
        → records_bytes m'.records ++ m'.tail ≡ records_bytes m.records ++ new → AllRanges [] m'.records → Torn m'.records m'.tail
        → Settled
    unfolding by_number enter_by settle extend
    step_written new m' index t less entry put b f torn =
        let fit : committed_of m + length new ≤ min room max_length = omega (arith, room_for_lem) in
        rw (e, same, t, entry) (record {
          answer = refl;
          index = put;
          holds = holds_new room j m h new fit m' b f torn;
          beyond = written_drop j.slice (committed_of m) new (enough room j m h new fit);
        })

    step_finished : length bytes ≤ k → Settled
    unfolding enter_record
    step_finished all =
        let m' : Model = record { records = m.records ++ record_for o ∷ []; tail = [] } in
        step_written bytes m' (refreshed (fresh_index (m.records ++ record_for o ∷ [])) q.index) (take_all k bytes all) (omega arith)
        (rw (le-leb (length bytes) k all) refl)
        (rw (le-leb (length bytes) k all) (put_fresh q.index))
        (append-nil _ ∙ records_snoc m.records (record_for o)) (follow_snoc [] m.records (record_for o) h.follow good)
        (torn_none m'.records)

    step_cut : k < length bytes → Settled
    unfolding enter_record
    step_cut less =
        let n : length (take k bytes) ≡ k = length-take-le k bytes (omega arith) in
        let m' : Model = record { records = m.records; tail = take k bytes } in
        step_written (take k bytes) m' q.index refl (omega (arith, n)) (rw (lt-leb (length bytes) k less, n) refl)
        (rw (lt-leb (length bytes) k less) refl) refl h.follow
        (record {
          runs_out = λ at. reads_cut (record_reader (last_of m.records)) bytes (record_for o)
              (reads_back (last_of m.records) (record_for o) good) at k less;
        })

  settled : Settled
  settled = by_refusal (model_refusal room m q) refl
    where
      by_refusal : (n : ℕ) → model_refusal room m q ≡ n → Settled
      by_refusal zero e = by_order (length bytes) k (step_finished e) (step_cut e)
      by_refusal (suc n) e = step_declined n e

only_number : (n : ℕ) → first_turned (by_number n ∷ []) ≡ by_number n
unfolding first_turned by_number
only_number zero = refl
only_number (suc n) = refl

-- every call, by what its log and the records that stand come to
module _ (room : ℕ) (j : Journal) (m : Model) (h : Holds room j m) (c : Call) where
  abbrev req : Request
  req = c.request

  abbrev taking : ℕ
  taking = allowed req.budget (length (record_bytes (record_for (offer_of req))))

  -- what the model enters by its verdicts
  abbrev entry : Verdict → Verdict → Verdict → Entry
  entry u v w = enter_by (first_turned (u ∷ v ∷ w ∷ [])) m (record_for (offer_of req)) taking req.index

  step_standing : (b : Option ℕ)
      → Step room j (append_to (unless_broken b (standing (placed_from 0 m.records) (committed_of m))) j req)
      (entry taken (by_break b) (by_number (model_refusal room m req)))
  unfolding append_to unless_broken unchanged by_break first_turned enter_by
  step_standing (some at) = record { answer = refl; index = refl; holds = h; beyond = refl }
  step_standing none =
      rw (h.slice, same_refusal room m req, same_length (offer_of req), only_number)
      (unfold enter_by in settled room j m h req c.day_fits taking)

  step_with : (g : Gathered) → Step room j (append_with g j req) (entry (by_log g) (by_break (break_of req.rule m)) (by_number (model_refusal room m req)))
  unfolding append_with unchanged by_log first_turned enter_by
  step_with (misread n p) = record { answer = refl; index = refl; holds = h; beyond = refl }
  step_with (gathered ts) = rw (held room j m h req.rule) (step_standing (break_of req.rule m))

  pub step : Step room j (perform operations j c) (enter room m c)
  unfolding perform operations enter append_of verdict_of
  step = step_with (times_of req)

-- ---- every list

-- what holds after a list of calls that starts from a journal that holds what a model says
pub record After (room : ℕ) (j : Journal) (m : Model) (cs : List Call) : Type 0 where
  pub answers : answers_of operations j cs ≡ model_answers room m cs
  pub indexes : indexes_of operations j cs ≡ model_indexes room m cs
  pub holds : Holds room (journal_after operations j cs) (model_after room m cs)
  pub initial : drop (reach_of operations j cs) (journal_after operations j cs).slice ≡ drop (reach_of operations j cs) j.slice

-- bytes that are the same from one place on are so from each later place on
later_same : (a b : ℕ) (xs ys : List ℕ) → a ≤ b → drop a xs ≡ drop a ys → drop b xs ≡ drop b ys
later_same a b xs ys h e =
    let n : a + (b - a) ≡ b = omega arith in
    ap (λ (k : ℕ). drop k xs) (sym n) ∙ sym (drop-drop (b - a) a xs) ∙ ap (drop (b - a)) e ∙ drop-drop (b - a) a ys ∙ ap (λ (k : ℕ). drop k ys) n

-- the length after the calls is within their reach
reach_least : (j : Journal) (cs : List Call) → j.len ≤ reach_of operations j cs
unfolding reach_of
reach_least j [] = omega arith
reach_least j (c ∷ cs) = omega arith

pub after_all : (room : ℕ) (j : Journal) (m : Model) → Holds room j m → (cs : List Call) → After room j m cs
unfolding answers_of model_answers indexes_of model_indexes journal_after model_after reach_of
after_all room j m h [] = record { answers = refl; indexes = refl; holds = h; initial = refl }
after_all room j m h (c ∷ cs) =
    let s = step room j m h c in
    let out : Outcome = perform operations j c in
    let a = after_all room out.journal (enter room m c).model s.holds cs in
    let far : ℕ = reach_of operations out.journal cs in
    let near : out.journal.len ≤ far = reach_least out.journal cs in
    record {
      answers = ap₂ (λ (x : AppendResult) (xs : List AppendResult). x ∷ xs) s.answer a.answers;
      indexes = ap₂ (λ (x : Option (List ℕ)) (xs : List (Option (List ℕ))). x ∷ xs) s.index a.indexes;
      holds = a.holds;
      initial =
          later_same far (max j.len far) _ _ (omega arith) a.initial
          ∙ later_same out.journal.len (max j.len far) out.journal.slice j.slice (omega arith) s.beyond;
    }

-- demand 3 from any journal that holds what a model says
pub demand3_from : (room : ℕ) (j : Journal) (m : Model) → Holds room j m → (cs : List Call) → Demand3From operations room j m cs
demand3_from room j m h cs =
    let a = after_all room j m h cs in
    record {
      answers = a.answers;
      indexes = a.indexes;
      agrees = agrees room _ _ a.holds;
      beyond = λ c. (step room _ _ a.holds c).beyond;
      initial = a.initial;
    }

-- records end to end, each of which keeps the ranges, hold what the model of those records says
pub holds_records : (slice : List ℕ) (len : ℕ) (rs : List Record) → len ≤ length slice → len ≤ max_length
    → take len slice ≡ records_bytes rs → AllRanges [] rs → Holds (length slice) (record { slice = slice; len = len }) (record { records = rs; tail = [] })
unfolding committed_of
holds_records slice len rs fits most bytes f = record {
  slice = refl;
  len = sym (length-take-le len slice fits) ∙ ap length bytes ∙ sym (lengths_are rs) ∙ sym (add-zero (lengths_of rs));
  fits = fits;
  most = most;
  bytes = bytes ∙ sym (append-nil (records_bytes rs));
  follow = f;
  torn = torn_none rs;
}

-- an empty journal holds what the empty model says
pub start : (slice : List ℕ) → Holds (length slice) (empty_in slice) empty_model
unfolding empty_in empty_model committed_of lengths_of records_bytes joined
start slice = record {
  slice = refl;
  len = refl;
  fits = omega arith;
  most = omega arith;
  bytes = refl;
  follow = tt;
  torn = torn_none [];
}

-- THE THEOREM: demand 3 holds of the journal's operations
pub demand3 : Demand3 operations
demand3 slice cs = demand3_from (length slice) (empty_in slice) empty_model (start slice) cs
