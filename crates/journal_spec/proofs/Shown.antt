-- Demand 3's sentence, read off the theorem: the journal shows exactly the records of the calls that finished, in their order, each with the
-- day, name, chances and times given and the formula's bits for its limits. Assumes nothing.
use mathlib.Core.Path.{◌≡◌, refl, sym, ap, ◌∙◌}
use mathlib.Core.Logic.{◌↔◌}
use Prim.Native.Nat.{ℕ, zero, suc, ◌+◌, ◌≤◌, ◌<◌}
use mathlib.Core.List.{List, [], ◌∷◌, ◌++◌, append_assoc, append-nil}
use mathlib.Core.Bool.{Bool, true, false, cond, ◌&&◌}
use mathlib.Core.Option.{Option}
use native.Mathlib.Omega.{arith}
use native.Mathlib.Nat.{zero-add}
use lib.ListN.{get_or, length, length-append}
use lib.Dec.{leb}
use borrow.Author.Tests.{le-leb, leb-true}
use Rattle.facts.proofs.Tests as tests
use Rattle.journal_spec.specs.Reader.{found, run}
use Rattle.journal_spec.specs.Record.{Last, last_of, record_reader}
use Rattle.journal_spec.specs.Record.{Record, record_bytes}
use Rattle.journal_spec.specs.Profile.{plain}
use Rattle.journal_spec.specs.Read.{unmarked, read_part, read_mark}
use Rattle.journal_spec.specs.Request.{Journal}
use Rattle.journal_spec.specs.Calls.{operations, Call, empty_in, journal_after}
use Rattle.journal_spec.specs.Model.{Model, empty_model, lengths_of, committed_of, Verdict, taken, turned, verdict_of, Entry}
use Rattle.journal_spec.specs.Model.{enter_record, enter_by, enter, model_after}
use Rattle.journal_spec.specs.Shown.{offer_by, budget_of, record_of, is_taken, finishes, finished, GivenTimes, Given, Finishes}
use Rattle.journal_spec.specs.Demand.{bytes_at, record_mark}
use Rattle.journal_spec.specs.Ranges.{RecordRanges, AllRanges}
use Rattle.journal_spec.proofs.Ranged.{reads_back}
use Rattle.journal_spec.proofs.Given.{is_given, record_is, budget_reaches}
use Rattle.journal_spec.proofs.Verdicts.{taken_exactly}
use Rattle.journal_spec.proofs.Placing.{no_bytes, no_mark}
use Rattle.journal_spec.proofs.Demand.{Holds, start, after_all, plain_part, plain_mark, demand3_from, demand3}

pub enter_is : (room : ℕ) (m : Model) (c : Call) → enter room m c ≡ enter_by (verdict_of room m c.request) m (record_of c) (budget_of c) c.request.index
unfolding enter offer_by budget_of record_of
enter_is room m c = refl

-- ---- which records are shown

records_entered : (v : Verdict) (m : Model) (r : Record) (k : ℕ) (index : Option (List ℕ))
    → (enter_by v m r k index).model.records ≡ m.records ++ cond (is_taken v && leb (length (record_bytes r)) k) (r ∷ []) []
unfolding enter_by enter_record is_taken
records_entered (turned answer) m r k index = sym (append-nil m.records)
records_entered taken m r k index = go (leb (length (record_bytes r)) k) refl
  where
    go : (b : Bool) → leb (length (record_bytes r)) k ≡ b
        → (enter_record m r k index).model.records ≡ m.records ++ cond (leb (length (record_bytes r)) k) (r ∷ []) []
    go true e = rw e refl
    go false e = rw e (sym (append-nil m.records))

-- the model's records are exactly those of the calls whose last byte was written, in that order
pub records_are_finished : (room : ℕ) (m : Model) (cs : List Call) → (model_after room m cs).records ≡ m.records ++ finished room m cs
unfolding model_after finished finishes
records_are_finished room m [] = sym (append-nil m.records)
records_are_finished room m (c ∷ cs) =
    let one : (enter room m c).model.records ≡ m.records ++ cond (finishes room m c) (record_of c ∷ []) [] =
    ap (λ (e : Entry). e.model.records) (enter_is room m c)
    ∙ records_entered (verdict_of room m c.request) m (record_of c) (budget_of c) c.request.index in
    records_are_finished room (enter room m c).model cs
    ∙ ap (λ (rs : List Record). rs ++ finished room (enter room m c).model cs) one
    ∙ append_assoc m.records _ _

-- after a list that starts from a journal that holds what a model says
module _ (room : ℕ) (j : Journal) (m : Model) (h : Holds room j m) (cs : List Call) where
  abbrev journal_then : Journal
  journal_then = journal_after operations j cs

  -- what is shown: the records that the list starts with, and then those of the calls that finished
  pub shown_from : (i : ℕ) → read_part plain journal_then.slice journal_then.len i ≡ bytes_at (m.records ++ finished room m cs) i
  unfolding operations
  shown_from i =
      (demand3_from room j m h cs).agrees.part plain i ∙ plain_part (model_after room m cs) i ∙ rw (records_are_finished room m cs) refl

  -- the mark of each, and 10 where there is none
  pub shown_mark_from : (i : ℕ) → read_mark plain journal_then.slice journal_then.len i ≡ record_mark (m.records ++ finished room m cs) i
  unfolding operations
  shown_mark_from i =
      (demand3_from room j m h cs).agrees.mark plain i ∙ plain_mark (model_after room m cs) i ∙ rw (records_are_finished room m cs) refl

  -- the committed length is the sum of their lengths
  pub committed_sum_from : committed_of (model_after room m cs) ≡ lengths_of (m.records ++ finished room m cs)
  unfolding committed_of
  committed_sum_from = rw (records_are_finished room m cs) refl

-- record i shown is the record of the i-th call that finished
pub shown_bytes : (slice : List ℕ) (cs : List Call) (i : ℕ)
    → let j = journal_after operations (empty_in slice) cs in
    let rs = finished (length slice) empty_model cs in
    i < length rs → read_part plain j.slice j.len i ≡ bytes_at rs i
unfolding empty_model
shown_bytes slice cs i below = shown_from (length slice) (empty_in slice) empty_model (start slice) cs i

-- each has what was given in the call, and the formula's bits for its limits
pub shown_fields : (c : Call) (ts : List ℕ) → GivenTimes c.request ts → Given c.request (record_of c)
unfolding record_of offer_by
shown_fields c ts g = is_given c.request ts g

-- a call finishes exactly where it is taken and its record's last byte is written
pub finishes_exactly : (room : ℕ) (m : Model) (c : Call) → (finishes room m c ≡ true) ↔ Finishes room m c
unfolding finishes
finishes_exactly room m c = (
  λ h.
      let t = (taken_exactly room m c.request).0
      (was_taken (verdict_of room m c.request) (tests.first_of_lem (is_taken (verdict_of room m c.request)) _ h)) in
      let last = leb-true (length (record_bytes (record_of c))) (budget_of c) (tests.second_of_lem (is_taken (verdict_of room m c.request)) _ h) in
      record { takes = t; reaches = rw (record_is c t.content t.given) ((budget_reaches c).0 last) },
  λ f.
      let last = (budget_reaches c).1 (rw (record_is c f.takes.content f.takes.given) at f.reaches) in
      rw ((taken_exactly room m c.request).1 f.takes, le-leb (length (record_bytes (record_of c))) (budget_of c) last)
      (unfold is_taken in refl),
)
  where
    was_taken : (v : Verdict) → is_taken v ≡ true → v ≡ taken
    was_taken taken h = refl
    was_taken (turned a) h = unfold is_taken in let z : ◌≡◌ {A = ℕ} 0 1 = cc in absurd (omega arith)

-- ---- a record shown, whole

-- stands in for a record where there is none
pub blank : Record
blank = record { form = 0; day = 0; name = []; chances = []; times = []; limits = [] }

bytes_at_lem : (rs : List Record) (i : ℕ) → i < length rs → bytes_at rs i ≡ record_bytes (get_or rs i blank)
unfolding bytes_at
bytes_at_lem [] i h = absurd (omega arith)
bytes_at_lem (r ∷ rs) zero h = refl
bytes_at_lem (r ∷ rs) (suc i) h = bytes_at_lem rs i (omega arith)

good_at : (before rs : List Record) (i : ℕ) → AllRanges before rs → i < length rs → (last : Last) × RecordRanges last (get_or rs i blank)
good_at before [] i f h = absurd (omega arith)
good_at before (r ∷ rs) zero f h = (last_of before, f.0)
good_at before (r ∷ rs) (suc i) f h = good_at (before ++ r ∷ []) rs i f.1 (omega arith)

-- the call of the list that the i-th finished record is of: it finishes when its turn comes, and i calls before it have finished
record FinishedAt (room : ℕ) (m : Model) (cs : List Call) (i : ℕ) : Type 0 where
  before : List Call
  call : Call
  others : List Call
  parts : cs ≡ before ++ call ∷ others
  whole : finishes room (model_after room m before) call ≡ true
  place : i ≡ length (finished room m before)
  is : get_or (finished room m cs) i blank ≡ record_of call

at_first : (room : ℕ) (m : Model) (c : Call) (cs : List Call) → finishes room m c ≡ true → FinishedAt room m (c ∷ cs) 0
unfolding finished model_after
at_first room m c cs e = record { before = []; call = c; others = cs; parts = refl; whole = e; place = refl; is = rw e refl }

-- behind a first record or none, the place is one more or the same
place_later : (b : Bool) (r : Record) (rs : List Record) (i : ℕ) → i ≡ length rs → cond b (suc i) i ≡ length (cond b (r ∷ []) [] ++ rs)
place_later true r rs i e = ap suc e
place_later false r rs i e = e

get_d_later : (b : Bool) (r : Record) (rs : List Record) (i : ℕ) → get_or (cond b (r ∷ []) [] ++ rs) (cond b (suc i) i) blank ≡ get_or rs i blank
get_d_later true r rs i = refl
get_d_later false r rs i = refl

at_later : (room : ℕ) (m : Model) (c : Call) (cs : List Call) (b : Bool) → finishes room m c ≡ b → (i : ℕ)
    → FinishedAt room (enter room m c).model cs i → FinishedAt room m (c ∷ cs) (cond b (suc i) i)
unfolding finished model_after
at_later room m c cs b e i f = record {
  before = c ∷ f.before;
  call = f.call;
  others = f.others;
  parts = ap (λ (l : List Call). c ∷ l) f.parts;
  whole = f.whole;
  place = rw e (place_later b (record_of c) (finished room (enter room m c).model f.before) i f.place);
  is = rw e (get_d_later b (record_of c) (finished room (enter room m c).model cs) i ∙ f.is);
}

finished_at : (room : ℕ) (m : Model) (cs : List Call) (i : ℕ) → i < length (finished room m cs) → FinishedAt room m cs i
unfolding finished
finished_at room m [] i h = absurd (omega arith)
finished_at room m (c ∷ cs) i h = by_first (finished_at room (enter room m c).model cs) (finishes room m c) refl i h
  where
    by_first : ((i : ℕ) → i < length (finished room (enter room m c).model cs) → FinishedAt room (enter room m c).model cs i)
        → (b : Bool) → finishes room m c ≡ b → (i : ℕ)
        → i < length (cond b (record_of c ∷ []) [] ++ finished room (enter room m c).model cs) → FinishedAt room m (c ∷ cs) i
    by_first later false e i h = at_later room m c cs false e i (later i h)
    by_first later true e zero h = at_first room m c cs e
    by_first later true e (suc i) h = at_later room m c cs true e i (later i (omega arith))

-- Behind the records that the list starts with, record i shown: the call of the list that it is of, which finishes when its turn comes, with
-- as many calls before it that finish as there are records between; its bytes, what is in it, and that its part reads back as it.
pub record ShownFrom (room : ℕ) (j : Journal) (m : Model) (cs : List Call) (i : ℕ) : Type 0 where
  pub before : List Call
  pub call : Call
  pub others : List Call
  pub parts : cs ≡ before ++ call ∷ others
  pub whole : Finishes room (model_after room m before) call
  pub place : i ≡ length m.records + length (finished room m before)
  pub content : Record
  pub fields : Given call.request content
  pub part : read_part plain (journal_after operations j cs).slice (journal_after operations j cs).len i ≡ record_bytes content
  pub last : Last
  pub reads : run (record_reader last) 0 (record_bytes content) ≡ found content (length (record_bytes content)) []

bytes_front : (xs ys : List Record) (i : ℕ) → i < length xs → bytes_at (xs ++ ys) i ≡ record_bytes (get_or xs i blank)
unfolding bytes_at
bytes_front [] ys i h = absurd (omega arith)
bytes_front (x ∷ xs) ys zero h = refl
bytes_front (x ∷ xs) ys (suc i) h = bytes_front xs ys i (omega arith)

bytes_behind : (xs ys : List Record) (k : ℕ) → bytes_at (xs ++ ys) (length xs + k) ≡ bytes_at ys k
unfolding bytes_at
bytes_behind [] ys k = rw zero-add refl
bytes_behind (x ∷ xs) ys k = let n : suc (length xs) + k ≡ suc (length xs + k) = omega arith in rw n (bytes_behind xs ys k)

-- records that may stand behind others
good_behind_lem : (before xs ys : List Record) → AllRanges before (xs ++ ys) → AllRanges (before ++ xs) ys
good_behind_lem before [] ys f = rw append-nil f
good_behind_lem before (x ∷ xs) ys f = rw append_assoc at (good_behind_lem (before ++ x ∷ []) xs ys f.1)

module _ (room : ℕ) (j : Journal) (m : Model) (h : Holds room j m) (cs : List Call) where
  -- the records that the list starts with stay shown
  pub shown_first_from : (i : ℕ) → i < length m.records
      → read_part plain (journal_after operations j cs).slice (journal_after operations j cs).len i ≡ record_bytes (get_or m.records i blank)
  shown_first_from i below = shown_from room j m h cs i ∙ bytes_front m.records (finished room m cs) i below

  -- and each keeps the ranges, with the formula's bits for its limits
  pub first_good_from : (i : ℕ) → i < length m.records → (last : Last) × RecordRanges last (get_or m.records i blank)
  first_good_from i below = good_at [] m.records i h.follow below

  -- behind them are those of the calls that finished
  pub shown_record_from : (k : ℕ) → k < length (finished room m cs) → ShownFrom room j m cs (length m.records + k)
  shown_record_from k below =
      let rs : List Record = finished room m cs in
      let f = finished_at room m cs k below in
      let all : AllRanges [] (m.records ++ rs) = rw (records_are_finished room m cs) at (after_all room j m h cs).holds.follow in
      let g = good_at m.records rs k (good_behind_lem [] m.records rs all) below in
      let good : RecordRanges g.0 (record_of f.call) = rw f.is at g.1 in
      let on = (reads_back g.0 (record_of f.call) good).on 0 [] in
      let whole = (finishes_exactly room (model_after room m f.before) f.call).0 f.whole in
      record {
        before = f.before;
        call = f.call;
        others = f.others;
        parts = f.parts;
        whole = whole;
        place = ap (λ (n : ℕ). length m.records + n) f.place;
        content = record_of f.call;
        part =
            shown_from room j m h cs (length m.records + k)
            ∙ bytes_behind m.records rs k ∙ bytes_at_lem rs k below ∙ ap record_bytes f.is;
        fields = shown_fields f.call whole.takes.content.times whole.takes.given.times;
        last = g.0;
        reads = rw (append-nil, zero-add) at on;
      }

  -- there is no other: its part is empty, and its mark is refused by 10
  pub shown_no_other : (i : ℕ) → length m.records + length (finished room m cs) ≤ i
      → (read_part plain (journal_after operations j cs).slice (journal_after operations j cs).len i ≡ [])
      × (read_mark plain (journal_after operations j cs).slice (journal_after operations j cs).len i ≡ unmarked 10)
  shown_no_other i beyond =
      let rs : List Record = m.records ++ finished room m cs in
      let n : length rs ≤ i = rw length-append (omega arith) in
      (shown_from room j m h cs i ∙ no_bytes rs i n, shown_mark_from room j m h cs i ∙ no_mark rs i n)

-- ---- from the empty journal

-- record i shown: the call of the list that it is of, which finishes when its turn comes as the i-th that does, counted from 0;
-- that it has what was given in that call, its bytes, and that its part reads back as it
pub record ShownRecord (slice : List ℕ) (cs : List Call) (i : ℕ) : Type 0 where
  pub before : List Call
  pub call : Call
  pub others : List Call
  pub parts : cs ≡ before ++ call ∷ others
  pub whole : Finishes (length slice) (model_after (length slice) empty_model before) call
  pub place : i ≡ length (finished (length slice) empty_model before)
  pub content : Record
  pub fields : Given call.request content
  pub part : read_part plain (journal_after operations (empty_in slice) cs).slice (journal_after operations (empty_in slice) cs).len i
      ≡ record_bytes content
  pub last : Last
  pub reads : run (record_reader last) 0 (record_bytes content) ≡ found content (length (record_bytes content)) []

pub shown_record : (slice : List ℕ) (cs : List Call) (i : ℕ) → i < length (finished (length slice) empty_model cs) → ShownRecord slice cs i
unfolding empty_model
shown_record slice cs i h =
    let f = shown_record_from (length slice) (empty_in slice) empty_model (start slice) cs i h in
    record {
      before = f.before;
      call = f.call;
      others = f.others;
      parts = f.parts;
      whole = f.whole;
      place = omega (arith, f.place);
      content = f.content;
      fields = f.fields;
      part = rw zero-add at f.part;
      last = f.last;
      reads = f.reads;
    }

-- the committed length is the sum of the lengths of the records shown
pub committed_sum : (slice : List ℕ) (cs : List Call)
    → committed_of (model_after (length slice) empty_model cs) ≡ lengths_of (finished (length slice) empty_model cs)
unfolding empty_model
committed_sum slice cs = committed_sum_from (length slice) (empty_in slice) empty_model (start slice) cs

-- the mark of each record shown
pub shown_mark : (slice : List ℕ) (cs : List Call) (i : ℕ)
    → let j = journal_after operations (empty_in slice) cs in
    read_mark plain j.slice j.len i ≡ record_mark (model_after (length slice) empty_model cs).records i
unfolding operations
shown_mark slice cs i = (demand3 slice cs).agrees.mark plain i ∙ plain_mark (model_after (length slice) empty_model cs) i
