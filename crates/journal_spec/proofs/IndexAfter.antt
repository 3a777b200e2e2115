-- Request 2026-08, read off the theorem: after a call that finishes its record the index handed is the one made afresh, with every byte beyond it
-- as before; a call that is cut or turned away leaves the buffer; and making an index of the journal answers the model's. Assumes nothing.
use mathlib.Core.Path.{◌≡◌, refl, ap, ◌∙◌}
use Prim.Native.Nat.{ℕ, suc, ◌+◌, ◌*◌, ◌≤◌, ◌<◌}
use mathlib.Core.List.{List, [], ◌∷◌, ◌++◌}
use mathlib.Core.Bool.{Bool, true, false, cond}
use mathlib.Core.Option.{Option, some}
use native.Mathlib.Omega.{arith}
use native.Mathlib.Nat.{zero-add}
use lib.ListN.{length, drop, length-append}
use lib.Seq.{drop_at}
use lib.Dec.{leb}
use borrow.Author.Tests.{le-leb, lt-leb}
use Rattle.journal_spec.specs.Bytes.{joined}
use Rattle.journal_spec.specs.Refusals.{index_room_refusal, unless}
use Rattle.journal_spec.specs.Record.{Record, last_of, min_name, max_name, record_bytes, records_bytes}
use Rattle.journal_spec.specs.Profile.{plain}
use Rattle.journal_spec.specs.Scan.{max_length, standing, contents_of}
use Rattle.journal_spec.specs.Index.{IndexEntry, index_bytes, Order, lower, equal, higher, order_of, enroll, fresh_from, fresh_index}
use Rattle.journal_spec.specs.Request.{up_to, Journal}
use Rattle.journal_spec.specs.Append.{written, judge_index_room}
use Rattle.journal_spec.specs.MakeIndex.{made, declined, Made, make_unless, make_from, make_index_of}
use Rattle.journal_spec.specs.Calls.{operations, Call, empty_in, perform, journal_after}
use Rattle.journal_spec.specs.Model.{Model, empty_model, committed_of, break_of, Verdict, taken, turned, verdict_of, Entry, enter_record, enter_by, refreshed}
use Rattle.journal_spec.specs.Model.{model_after}
use Rattle.journal_spec.specs.Shown.{budget_of, record_of, Takes, Finishes}
use Rattle.journal_spec.specs.Ranges.{AllRanges}
use Rattle.journal_spec.proofs.Ranged.{encoding_length}
use Rattle.journal_spec.proofs.Given.{record_is, budget_upto, budget_reaches}
use Rattle.journal_spec.proofs.Verdicts.{taken_exactly}
use Rattle.journal_spec.proofs.Scanning.{unless_broken, plain_keeps}
use Rattle.journal_spec.proofs.Places.{placed_from}
use Rattle.journal_spec.proofs.Placing.{lengths_are}
use Rattle.journal_spec.proofs.Indexes.{same_index}
use Rattle.journal_spec.proofs.Demand.{Holds, held, start, step, after_all}
use Rattle.journal_spec.proofs.Shown.{enter_is}

-- ---- after a call

-- one more call, after a list that starts from a journal that holds what a model says
module _ (room : ℕ) (j : Journal) (m : Model) (h : Holds room j m) (cs : List Call) (c : Call) where
  -- the model before the call, and the index's buffer after it
  abbrev before : Model
  before = model_after room m cs

  abbrev after : Option (List ℕ)
  after = (perform operations (journal_after operations j cs) c).index

  entered : after ≡ (enter_by (verdict_of room before c.request) before (record_of c) (budget_of c) c.request.index).index
  entered =
      (step room _ before (after_all room j m h cs).holds c).index
      ∙ ap (λ (e : Entry). e.index) (enter_is room before c)

  -- its record is finished: the index of all records now shown stands in front, and every byte beyond it is as it was
  pub index_finished_from : (b : List ℕ) → c.request.index ≡ some b → (f : Finishes room before c)
      → let now = index_bytes (fresh_index (before.records ++ f.takes.content ∷ [])) in after ≡ some (now ++ drop (length now) b)
  unfolding enter_by enter_record refreshed
  index_finished_from b i f =
      let same : f.takes.content ≡ record_of c = record_is c f.takes.content f.takes.given in
      let all : length (record_bytes (record_of c)) ≤ budget_of c = (budget_reaches c).1 (rw same at f.reaches) in
      entered
      ∙ rw (same, (taken_exactly room before c.request).1 f.takes, le-leb (length (record_bytes (record_of c))) (budget_of c) all, i) refl

  -- its record is cut: the index is as it was
  pub index_cut_from : (t : Takes room before c.request) (k : ℕ) → c.request.budget ≡ up_to k → k < length (record_bytes t.content)
      → after ≡ c.request.index
  unfolding enter_by enter_record
  index_cut_from t k e short =
      let less : k < length (record_bytes (record_of c)) = rw (record_is c t.content t.given) at short in
      entered
      ∙ rw ((taken_exactly room before c.request).1 t, lt-leb (length (record_bytes (record_of c))) (budget_of c) (omega (arith, budget_upto c k e)))
      refl

  -- it is declined: the index is as it was
  pub index_declined_from : (Takes room before c.request → ⊥) → after ≡ c.request.index
  unfolding enter_by
  index_declined_from never = entered ∙ go (verdict_of room before c.request) refl
    where
      go : (v : Verdict) → verdict_of room before c.request ≡ v
          → (enter_by (verdict_of room before c.request) before (record_of c) (budget_of c) c.request.index).index ≡ c.request.index
      go taken e = absurd (never ((taken_exactly room before c.request).0 e))
      go (turned a) e = rw e refl

-- the same from the empty journal
module _ (slice : List ℕ) (cs : List Call) (c : Call) where
  abbrev empty_before : Model
  empty_before = model_after (length slice) empty_model cs

  abbrev empty_after : Option (List ℕ)
  empty_after = (perform operations (journal_after operations (empty_in slice) cs) c).index

  pub index_finished : (b : List ℕ) → c.request.index ≡ some b → (f : Finishes (length slice) empty_before c)
      → let now = index_bytes (fresh_index (empty_before.records ++ f.takes.content ∷ [])) in empty_after ≡ some (now ++ drop (length now) b)
  index_finished = index_finished_from (length slice) (empty_in slice) empty_model (start slice) cs c

  pub index_cut : (t : Takes (length slice) empty_before c.request) (k : ℕ) → c.request.budget ≡ up_to k
      → k < length (record_bytes t.content) → empty_after ≡ c.request.index
  index_cut = index_cut_from (length slice) (empty_in slice) empty_model (start slice) cs c

-- ---- made afresh

-- what making an index comes to, by the model
unfoldable pub model_made : Model → List ℕ → Made
model_made m b =
    let now = index_bytes (fresh_index m.records) in
    cond (leb (length now) (length b))
    (record { answer = made (length now); buffer = now ++ drop (length now) b })
    (record { answer = declined index_room_refusal; buffer = b })

pub makes : (room : ℕ) (j : Journal) (m : Model) → Holds room j m → (b : List ℕ) → make_index_of j b ≡ model_made m b
unfolding make_index_of break_of
makes room j m h b =
    let stands : contents_of plain j.slice j.len ≡ standing (placed_from 0 m.records) (committed_of m) =
    held room j m h plain ∙ rw (plain_keeps 0 m.records) (unfold unless_broken in refl) in
    ap (λ x. make_from x b) stands
    ∙ unfold make_from in rw (same_index m.records) (go (leb (length (index_bytes (fresh_index m.records))) (length b)) refl)
  where
    go : (t : Bool) → leb (length (index_bytes (fresh_index m.records))) (length b) ≡ t
        → make_unless (judge_index_room (fresh_index m.records) b) (fresh_index m.records) b ≡ model_made m b
    go true e = unfold judge_index_room unless make_unless model_made written in rw (e, zero-add) refl
    go false e = unfold judge_index_room unless make_unless model_made in rw e refl

-- a buffer with the journal's index in front is as one made afresh into it
pub made_same : (m : Model) (now b : List ℕ) → now ≡ index_bytes (fresh_index m.records) → length now ≤ length b
    → model_made m (now ++ drop (length now) b) ≡ record { answer = made (length now); buffer = now ++ drop (length now) b }
unfolding model_made
made_same m now b e fits =
    let long : length now ≤ length (now ++ drop (length now) b) = rw length-append (omega arith) in
    rw (← e, le-leb (length now) (length (now ++ drop (length now) b)) long, drop_at now (drop (length now) b) (length now) refl) refl

-- ---- its numbers fit their bytes

pub enroll_count : (new : IndexEntry) (es : List IndexEntry) → length (enroll new es) ≤ suc (length es)
unfolding enroll
enroll_count new [] = omega arith
enroll_count new (e ∷ es) = go (enroll_count new es) (order_of new.name e.name) refl
  where
    go : length (enroll new es) ≤ suc (length es) → (o : Order) → order_of new.name e.name ≡ o → length (enroll new (e ∷ es)) ≤ suc (suc (length es))
    go ih lower k = unfold enroll in rw (k, enroll) (omega arith)
    go ih equal k = unfold enroll in rw (k, enroll) (omega arith)
    go ih higher k = unfold enroll in rw (k, enroll) (omega arith)

fresh_count : (at : ℕ) (rs : List Record) → length (fresh_from at rs) ≤ length rs
unfolding fresh_from
fresh_count at [] = omega arith
fresh_count at (r ∷ rs) =
    let next : ℕ = at + length (record_bytes r) in
    omega (arith, enroll_count (record { name = r.name; start = at }) (fresh_from next rs), fresh_count next rs)

thirty_three : (before rs : List Record) → AllRanges before rs → 33 * length rs ≤ length (records_bytes rs)
unfolding records_bytes joined
thirty_three before [] f = omega arith
thirty_three before (r ∷ rs) f =
    rw length-append (omega (arith, encoding_length (last_of before) r f.0, thirty_three (before ++ r ∷ []) rs f.1))

-- at most 1,985 entries
pub index_count : (room : ℕ) (j : Journal) (m : Model) → Holds room j m → length (fresh_index m.records) ≤ 1_985
unfolding fresh_index committed_of
index_count room j m h =
    omega (arith, fresh_count 0 m.records, thirty_three [] m.records h.follow, h.len, h.most, lengths_are m.records)

-- every entry of a list
abbrev pub Entries : (IndexEntry → Type 0) → List IndexEntry → Type 0
Entries P [] = Unit {0}
Entries P (e ∷ es) = P e × Entries P es

-- a name of 1 to 32 bytes, and a start inside the longest journal
pub record FitsBytes (e : IndexEntry) : Type 0 where
  pub least : min_name ≤ length e.name
  pub most : length e.name ≤ max_name
  pub start : e.start < max_length

enroll_all : (P : IndexEntry → Type 0) (new : IndexEntry) (es : List IndexEntry) → P new → Entries P es → Entries P (enroll new es)
unfolding enroll
enroll_all P new [] p h = (p, tt)
enroll_all P new (e ∷ es) p h = go (enroll_all P new es p h.1) (order_of new.name e.name) refl
  where
    go : Entries P (enroll new es) → (o : Order) → order_of new.name e.name ≡ o → Entries P (enroll new (e ∷ es))
    go ih lower k = unfold enroll in rw (k, enroll) (p, h)
    go ih equal k = unfold enroll in rw (k, enroll) h
    go ih higher k = unfold enroll in rw (k, enroll) (h.0, ih)

fresh_all : (before rs : List Record) (at : ℕ) → AllRanges before rs → at + length (records_bytes rs) ≤ max_length → Entries FitsBytes (fresh_from at rs)
unfolding fresh_from records_bytes joined
fresh_all before [] at f h = tt
fresh_all before (r ∷ rs) at f h =
    let size = encoding_length (last_of before) r f.0 in
    let whole : length (record_bytes r ++ records_bytes rs) ≡ length (record_bytes r) + length (records_bytes rs) =
    length-append (record_bytes r) (records_bytes rs) in
    enroll_all FitsBytes (record { name = r.name; start = at }) (fresh_from (at + length (record_bytes r)) rs)
    (record { least = f.0.name.least; most = f.0.name.most; start = omega (arith, size, whole) })
    (fresh_all (before ++ r ∷ []) rs (at + length (record_bytes r)) f.1 (omega (arith, whole)))

-- each entry's numbers fit their bytes
pub index_fits : (room : ℕ) (j : Journal) (m : Model) → Holds room j m → Entries FitsBytes (fresh_index m.records)
unfolding fresh_index committed_of
index_fits room j m h = fresh_all [] m.records 0 h.follow (omega (arith, h.len, h.most, lengths_are m.records))
