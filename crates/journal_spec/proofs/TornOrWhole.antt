-- Demand 3's sentence, read off the theorem: scan says torn exactly when the last call that was not declined wrote some but not all of its
-- record, and whole otherwise, both with the number of records and the committed length; from the empty journal, and from any without a torn
-- tail that holds what a model says. Assumes nothing.
use mathlib.Core.Path.{◌≡◌, refl, sym, ap, ◌∙◌}
use mathlib.Core.Logic.{◌⊎◌, inl, inr, ⊎_elim, ◌↔◌}
use Prim.Native.Nat.{ℕ, ◌+◌, ◌≤◌, ◌<◌}
use mathlib.Core.List.{List, [], ◌∷◌, ◌++◌}
use mathlib.Core.Bool.{Bool, true, false}
use mathlib.Core.Option.{Option}
use native.Mathlib.Omega.{arith}
use lib.ListN.{length, take, length-append}
use lib.Seq.{length-take-le}
use lib.Dec.{eqb}
use borrow.Author.Tests.{le-leb, lt-leb, ne_eqb}
use Rattle.facts.proofs.Orders.{by_order}
use Rattle.journal_spec.specs.Record.{Record, record_bytes}
use Rattle.journal_spec.specs.Profile.{plain}
use Rattle.journal_spec.specs.Scan.{ScanResult, whole, torn, scan_of}
use Rattle.journal_spec.specs.Request.{Journal, Budget, all, up_to, extended}
use Rattle.journal_spec.specs.Calls.{operations, Call, empty_in, journal_after}
use Rattle.journal_spec.specs.Model.{Model, empty_model, lengths_of, committed_of, Verdict, taken, turned, verdict_of, Entry, enter_record, enter_by}
use Rattle.journal_spec.specs.Model.{refreshed, enter, model_after}
use Rattle.journal_spec.specs.Index.{fresh_index}
use Rattle.journal_spec.specs.Shown.{budget_of, record_of, Takes, AllDeclined}
use Rattle.journal_spec.specs.Demand.{end_of}
use Rattle.journal_spec.proofs.Records.{length_record}
use Rattle.journal_spec.proofs.Given.{record_is, budget_all, budget_upto}
use Rattle.journal_spec.proofs.Verdicts.{taken_exactly}
use Rattle.journal_spec.proofs.Placing.{lengths_snoc}
use Rattle.journal_spec.proofs.Demand.{Holds, plain_scan, start, demand3_from}
use Rattle.journal_spec.proofs.Shown.{enter_is}

declined_stays : (room : ℕ) (m : Model) (c : Call) → (Takes room m c.request → ⊥) → (enter room m c).model ≡ m
declined_stays room m c h =
    ap (λ (e : Entry). e.model) (enter_is room m c)
    ∙ go (verdict_of room m c.request) (λ e. h ((taken_exactly room m c.request).0 e))
  where
    go : (v : Verdict) → (v ≡ taken → ⊥) → (enter_by v m (record_of c) (budget_of c) c.request.index).model ≡ m
    go taken h = absurd (h refl)
    go (turned answer) h = unfold enter_by in refl

all_stay : (room : ℕ) (m : Model) (cs : List Call) → AllDeclined room m cs → model_after room m cs ≡ m
unfolding model_after
all_stay room m [] h = refl
all_stay room m (c ∷ cs) h =
    let e = declined_stays room m c h.0 in
    ap (λ (x : Model). model_after room x cs) e ∙ all_stay room m cs h.1

model_append : (room : ℕ) (m : Model) (cs ds : List Call) → model_after room m (cs ++ ds) ≡ model_after room (model_after room m cs) ds
unfolding model_after
model_append room m [] ds = refl
model_append room m (c ∷ cs) ds = model_append room (enter room m c).model cs ds

-- every list of calls either has none that is taken, or ends as the laws below say
pub record LastTaken (room : ℕ) (m : Model) (cs : List Call) : Type 0 where
  pub before : List Call
  pub call : Call
  pub others : List Call
  pub parts : cs ≡ before ++ call ∷ others
  pub takes : Takes room (model_after room m before) call.request
  pub declined : AllDeclined room (enter room (model_after room m before) call).model others

pub last_taken : (room : ℕ) (m : Model) (cs : List Call) → AllDeclined room m cs ⊎ LastTaken room m cs
unfolding model_after
last_taken room m [] = inl tt
last_taken room m (c ∷ cs) = ⊎_elim (λ none. by_verdict (verdict_of room m c.request) refl none) (λ l. inr (record {
  before = c ∷ l.before;
  call = l.call;
  others = l.others;
  parts = ap (λ (x : List Call). c ∷ x) l.parts;
  takes = l.takes;
  declined = l.declined;
})) (last_taken room (enter room m c).model cs)
  where
    by_verdict : (v : Verdict) → verdict_of room m c.request ≡ v → AllDeclined room (enter room m c).model cs
        → AllDeclined room m (c ∷ cs) ⊎ LastTaken room m (c ∷ cs)
    by_verdict taken e none =
        inr (record {
          before = [];
          call = c;
          others = cs;
          parts = refl;
          takes = unfold model_after in (taken_exactly room m c.request).0 e;
          declined = unfold model_after in none;
        })
    by_verdict (turned answer) e none =
        let no : Takes room m c.request → ⊥ =
        λ t. let y = (taken_exactly room m c.request).1 t in let x : ◌≡◌ {A = ℕ} 0 1 = cc in omega arith in
        inl (no, rw (declined_stays room m c no) at none)

-- what scan answers after a list of calls that starts from a journal that holds what a model says
scanned : (room : ℕ) (j : Journal) (m : Model) → Holds room j m → (cs : List Call)
    → let after = journal_after operations j cs in scan_of plain after.slice after.len ≡ end_of (model_after room m cs)
unfolding operations
scanned room j m h cs = (demand3_from room j m h cs).agrees.scan plain ∙ plain_scan (model_after room m cs)

-- no call but declined ones, from a journal without a torn tail: whole, with the records that it starts with
pub whole_if_all_declined_from : (room : ℕ) (j : Journal) (m : Model) → Holds room j m → m.tail ≡ [] → (cs : List Call) → AllDeclined room m cs
    → let after = journal_after operations j cs in scan_of plain after.slice after.len ≡ whole (length m.records) (committed_of m)
unfolding end_of
whole_if_all_declined_from room j m h none cs all-declined = scanned room j m h cs ∙ rw (all_stay room m cs all-declined) (rw none refl)

-- what the model's scan says after a record is entered, by the budget
module _ (m : Model) (r : Record) (k : ℕ) (index : Option (List ℕ)) where
  entered_cut : 0 < k → k < length (record_bytes r) → end_of (enter_record m r k index).model ≡ torn (length m.records) (committed_of m)
  unfolding enter_record end_of committed_of
  entered_cut some less =
      let e : enter_record m r k index
      ≡ record { answer = extended (committed_of m + k); model = record { records = m.records; tail = take k (record_bytes r) }; index = index } =
      rw (lt-leb (length (record_bytes r)) k less) refl in
      ap (λ (x : Entry). end_of x.model) e
      ∙ rw (length-take-le k (record_bytes r) (omega arith), ne_eqb k 0 (λ z. omega arith)) refl

  entered_all : length (record_bytes r) ≤ k
      → end_of (enter_record m r k index).model ≡ whole (length m.records + 1) (committed_of m + length (record_bytes r))
  unfolding enter_record end_of committed_of
  entered_all most =
      let e : enter_record m r k index
      ≡ record {
        answer = extended (committed_of m + length (record_bytes r));
        model = record { records = m.records ++ r ∷ []; tail = [] };
        index = refreshed (fresh_index (m.records ++ r ∷ [])) index;
      } =
      rw (le-leb (length (record_bytes r)) k most) refl in
      ap (λ (x : Entry). end_of x.model) e
      ∙ rw (length-append, lengths_snoc m.records r) refl

  entered_none : k ≡ 0 → end_of (enter_record m r k index).model ≡ whole (length m.records) (committed_of m)
  unfolding enter_record end_of committed_of
  entered_none none =
      let e : enter_record m r k index
      ≡ record { answer = extended (committed_of m + k); model = record { records = m.records; tail = take k (record_bytes r) }; index = index } =
      rw (lt-leb (length (record_bytes r)) k (omega (arith, length_record r))) refl in
      ap (λ (x : Entry). end_of x.model) e
      ∙ rw none refl

-- the list ends with a call that is not declined, after which all are declined
module _ (room : ℕ) (j : Journal) (m : Model) (h : Holds room j m) (cs : List Call) (c : Call) (ds : List Call)
    (takes : Takes room (model_after room m cs) c.request)
    (others : AllDeclined room (enter room (model_after room m cs) c).model ds) where
  abbrev base : Model
  base = model_after room m cs

  ends : model_after room m (cs ++ c ∷ ds) ≡ (enter_record base (record_of c) (budget_of c) c.request.index).model
  unfolding enter_by model_after
  ends =
      model_append room m cs (c ∷ ds)
      ∙ all_stay room _ ds others
      ∙ ap (λ (e : Entry). e.model) (enter_is room base c)
      ∙ rw ((taken_exactly room base c.request).1 takes) refl

  -- it wrote some of its record but not all: torn
  torn_if_cut : 0 < budget_of c → budget_of c < length (record_bytes (record_of c))
      → let then = journal_after operations j (cs ++ c ∷ ds) in
      scan_of plain then.slice then.len ≡ torn (length base.records) (committed_of base)
  torn_if_cut some less = scanned room j m h (cs ++ c ∷ ds) ∙ ap end_of ends ∙ entered_cut base (record_of c) (budget_of c) c.request.index some less

  -- it wrote all of it: whole, with one record more
  whole_if_finished : length (record_bytes (record_of c)) ≤ budget_of c
      → let then = journal_after operations j (cs ++ c ∷ ds) in
      scan_of plain then.slice then.len ≡ whole (length base.records + 1) (committed_of base + length (record_bytes (record_of c)))
  whole_if_finished most = scanned room j m h (cs ++ c ∷ ds) ∙ ap end_of ends ∙ entered_all base (record_of c) (budget_of c) c.request.index most

  -- it wrote none of it: whole
  whole_if_none : budget_of c ≡ 0
      → let then = journal_after operations j (cs ++ c ∷ ds) in
      scan_of plain then.slice then.len ≡ whole (length base.records) (committed_of base)
  whole_if_none none = scanned room j m h (cs ++ c ∷ ds) ∙ ap end_of ends ∙ entered_none base (record_of c) (budget_of c) c.request.index none

-- ---- exactly

-- the last call that is not declined is the call with k, and writes some of its record but not all
pub record CutLast (room : ℕ) (m : Model) (cs : List Call) : Type 0 where
  pub last : LastTaken room m cs
  pub k : ℕ
  pub budget : last.call.request.budget ≡ up_to k
  pub some : 0 < k
  pub less : k < length (record_bytes last.takes.content)

module _ (room : ℕ) (j : Journal) (m : Model) (cs : List Call) where
  -- what scan answers after the calls, and the model after them
  abbrev answered : ScanResult
  answered = scan_of plain (journal_after operations j cs).slice (journal_after operations j cs).len

  abbrev after : Model
  after = model_after room m cs

  -- torn and whole with the number of the records shown and the committed length
  abbrev pub SaysTorn : Type 0
  SaysTorn = answered ≡ torn (length after.records) (committed_of after)

  abbrev pub SaysWhole : Type 0
  SaysWhole = answered ≡ whole (length after.records) (committed_of after)

  module _ (h : Holds room j m) (untorn : m.tail ≡ []) where
    says : SaysWhole ⊎ SaysTorn
    unfolding end_of
    says = go (eqb (length after.tail) 0) refl
      where
        go : (b : Bool) → eqb (length after.tail) 0 ≡ b → SaysWhole ⊎ SaysTorn
        go true e = inl (scanned room j m h cs ∙ rw e refl)
        go false e = inr (scanned room j m h cs ∙ rw e refl)

    not_both : (n c k l : ℕ) → answered ≡ whole n c → answered ≡ torn k l → ⊥
    not_both n c k l w t =
        let e : whole n c ≡ torn k l = sym w ∙ t in
        let z : ◌≡◌ {A = ℕ} 0 1 = cc in
        omega arith

    cut_last : SaysTorn → AllDeclined room m cs ⊎ LastTaken room m cs → CutLast room m cs
    cut_last t (inl none) = absurd (not_both _ _ _ _ (whole_if_all_declined_from room j m h untorn cs none) t)
    cut_last t (inr l) = by_budget l.call.request.budget refl
      where
        mid : Model
        mid = model_after room m l.before

        size : ℕ
        size = length (record_bytes (record_of l.call))

        finished_not : size ≤ budget_of l.call → ⊥
        finished_not reaches =
            not_both (length mid.records + 1) (committed_of mid + size) _ _
            (rw l.parts (whole_if_finished room j m h l.before l.call l.others l.takes l.declined reaches)) t

        none_not : budget_of l.call ≡ 0 → ⊥
        none_not none =
            not_both (length mid.records) (committed_of mid) _ _
            (rw l.parts (whole_if_none room j m h l.before l.call l.others l.takes l.declined none)) t

        by_budget : (b : Budget) → l.call.request.budget ≡ b → CutLast room m cs
        by_budget all e = absurd (finished_not (omega (arith, budget_all l.call e)))
        by_budget (up_to k) e =
            let same : budget_of l.call ≡ k = budget_upto l.call k e in
            by_order size k (λ reaches. absurd (finished_not (omega (arith, same))))
            (λ less.
            by_order 1 k
            (λ some. record {
              last = l;
              k = k;
              budget = e;
              some = some;
              less = rw (record_is l.call l.takes.content l.takes.given) less;
            })
            (λ none. absurd (none_not (omega (arith, same)))))

    -- survey says torn exactly when the last call that was not declined wrote some but not all of its record
    pub torn_exactly_from : SaysTorn ↔ CutLast room m cs
    torn_exactly_from = (λ t. cut_last t (last_taken room m cs), λ c. ⊎_elim (λ w. absurd (not_both _ _ _ _ w (cut c))) (λ t. t) says)
      where
        cut : (c : CutLast room m cs)
            → let mid = model_after room m c.last.before in answered ≡ torn (length mid.records) (committed_of mid)
        cut c =
            let l = c.last in
            let same : budget_of l.call ≡ c.k = budget_upto l.call c.k c.budget in
            let less : c.k < length (record_bytes (record_of l.call)) = rw (record_is l.call l.takes.content l.takes.given) at c.less in
            rw l.parts (torn_if_cut room j m h l.before l.call l.others l.takes l.declined (omega (arith, same, c.some)) (omega (arith, same)))

    -- and whole otherwise
    pub whole_otherwise_from : (CutLast room m cs → ⊥) → SaysWhole
    whole_otherwise_from uncut = ⊎_elim (λ w. w) (λ t. absurd (uncut (torn_exactly_from.0 t))) says

-- ---- from the empty journal

module _ (slice : List ℕ) (cs : List Call) where
  pub whole_if_all_declined : AllDeclined (length slice) empty_model cs
      → let j = journal_after operations (empty_in slice) cs in scan_of plain j.slice j.len ≡ whole 0 0
  unfolding empty_model committed_of lengths_of
  whole_if_all_declined none = whole_if_all_declined_from (length slice) (empty_in slice) empty_model (start slice) refl cs none

  pub torn_exactly : SaysTorn (length slice) (empty_in slice) empty_model cs ↔ CutLast (length slice) empty_model cs
  torn_exactly = torn_exactly_from (length slice) (empty_in slice) empty_model cs (start slice) (unfold empty_model in refl)

  pub whole_otherwise : (CutLast (length slice) empty_model cs → ⊥) → SaysWhole (length slice) (empty_in slice) empty_model cs
  whole_otherwise = whole_otherwise_from (length slice) (empty_in slice) empty_model cs (start slice) (unfold empty_model in refl)
