-- An index that is kept is never refused: a list of calls that starts with the index of the empty journal, each call handed the buffer that the
-- last one left, has no answer 14, whatever else is finished, cut or declined. Assumes nothing.
use mathlib.Core.Path.{◌≡◌, refl, sym, ap, ◌∙◌}
use Prim.Native.Nat.{ℕ, zero, suc}
use mathlib.Core.List.{List, [], ◌∷◌, ◌++◌}
use mathlib.Core.Bool.{Bool, true, false, not}
use mathlib.Core.Option.{Option, none, some}
use native.Mathlib.Omega.{arith}
use lib.ListN.{length, take, drop}
use lib.Seq.{take_at}
use lib.Dec.{leb}
use Rattle.facts.proofs.Tests.{by_test_lem}
use Rattle.journal_spec.specs.Refusals.{index_refusal, unless, first_of}
use Rattle.journal_spec.specs.Bytes.{bytes_of, joined}
use Rattle.journal_spec.specs.Record.{Record, record_bytes}
use Rattle.journal_spec.specs.Log.{Gathered, gathered, misread}
use Rattle.journal_spec.specs.Tests.{same}
use Rattle.journal_spec.specs.Index.{index_bytes, in_front, fresh_from, fresh_index}
use Rattle.journal_spec.specs.Request.{Journal, Request, times_of, AppendResult, declined}
use Rattle.journal_spec.specs.Calls.{operations, Call, empty_in, perform, answers_of, Threaded}
use Rattle.journal_spec.specs.Model.{Model, empty_model, index_wrong, model_refusals, model_refusal, break_of, Verdict, taken, turned, by_number, by_log}
use Rattle.journal_spec.specs.Model.{by_break, first_turned, verdict_of, Entry, refreshed, enter_record, enter_by, enter}
use Rattle.journal_spec.specs.Shown.{budget_of, record_of}
use Rattle.journal_spec.proofs.Each.{same_self}
use Rattle.journal_spec.proofs.Demand.{Holds, start, step}
use Rattle.journal_spec.proofs.Shown.{enter_is}

-- no answer is 14
abbrev pub NeverStale : List AppendResult → Type 0
NeverStale [] = Unit {0}
NeverStale (a ∷ rest) = (a ≡ declined index_refusal → ⊥) × NeverStale rest

-- ---- one call

-- none of the numbers is 14
abbrev Others : List ℕ → Type 0
Others [] = Unit {0}
Others (n ∷ ns) = (n ≡ index_refusal → ⊥) × Others ns

first_other : (ns : List ℕ) → Others ns → first_of ns ≡ index_refusal → ⊥
unfolding first_of
first_other [] h e = omega arith
first_other (zero ∷ ns) h e = first_other ns h.1 e
first_other (suc n ∷ ns) h e = h.0 e

other : (t : Bool) (n : ℕ) → (n ≡ index_refusal → ⊥) → unless t n ≡ index_refusal → ⊥
unfolding unless
other true n d e = omega arith
other false n d e = d e

-- the model's index stands at the buffer's front
abbrev Fresh : Model → List ℕ → Type 0
Fresh m b = in_front (index_bytes (fresh_index m.records)) b ≡ true

module _ (room : ℕ) (m : Model) (q : Request) (b : List ℕ) (handed : q.index ≡ some b) (fresh : Fresh m b) where
  right : unless (not (index_wrong m q.index)) index_refusal ≡ 0
  unfolding index_wrong unless
  right = rw (handed, index_wrong) (rw fresh refl)

  not_fourteen : model_refusal room m q ≡ index_refusal → ⊥
  unfolding model_refusal model_refusals
  not_fourteen =
      first_other _ (
        other _ 3 (λ e. omega arith),
        (
          other _ 4 (λ e. omega arith),
          (
            other _ 5 (λ e. omega arith),
            (
              other _ 17 (λ e. omega arith),
              (
                other _ 6 (λ e. omega arith),
                (
                  other _ 19 (λ e. omega arith),
                  (
                    other _ 9 (λ e. omega arith),
                    (
                      λ e. let z : ◌≡◌ {A = ℕ} 0 index_refusal = sym right ∙ e in omega arith,
                      (other _ 15 (λ e. omega arith), tt),
                    ),
                  ),
                ),
              ),
            ),
          ),
        ),
      )

  turned_otherwise : (a : AppendResult) → verdict_of room m q ≡ turned a → a ≡ declined index_refusal → ⊥
  unfolding verdict_of by_log by_break by_number first_turned
  turned_otherwise a = go (times_of q) (break_of q.rule m) (model_refusal room m q) not_fourteen
    where
      go : (g : Gathered) (k : Option ℕ) (n : ℕ) → (n ≡ index_refusal → ⊥) → first_turned (by_log g ∷ by_break k ∷ by_number n ∷ []) ≡ turned a
          → a ≡ declined index_refusal → ⊥
      go (misread l p) k n d h e = let z : ◌≡◌ {A = ℕ} 0 1 = cc in omega arith
      go (gathered ts) (some at) n d h e = let z : ◌≡◌ {A = ℕ} 0 1 = cc in omega arith
      go (gathered ts) none zero d h e = let z : ◌≡◌ {A = ℕ} 0 1 = cc in omega arith
      go (gathered ts) none (suc n) d h e = let z : suc n ≡ index_refusal = cc in d z

-- an index written afresh stands at the front
refreshed_fresh : (now b : List ℕ) → in_front now (now ++ drop (length now) b) ≡ true
unfolding in_front
refreshed_fresh now b = rw (take_at now (drop (length now) b) (length now) refl) (same_self now)

-- a record that is entered leaves a buffer with the index of the records that then stand
module _ (m : Model) (r : Record) (k : ℕ) (b : List ℕ) (fresh : Fresh m b) where
  abbrev now : List ℕ
  now = index_bytes (fresh_index (m.records ++ r ∷ []))

  -- the buffer that is left
  pub record Left (e : Entry) : Type 0 where
    pub buffer : List ℕ
    pub is : e.index ≡ some buffer
    pub right' : Fresh e.model buffer

  record_left : Left (enter_record m r k (some b))
  unfolding enter_record refreshed
  record_left =
      by_test_lem (leb (length (record_bytes r)) k)
      (λ t. rw t (record { buffer = now ++ drop (length now) b; is = refl; right' = refreshed_fresh now b }))
      (λ t. rw t (record { buffer = b; is = refl; right' = fresh }))

  verdict_left : (v : Verdict) → Left (enter_by v m r k (some b))
  unfolding enter_by
  verdict_left taken = record_left
  verdict_left (turned a) = record { buffer = b; is = refl; right' = fresh }

  -- and its answer is a length
  extended_answer : (enter_record m r k (some b)).answer ≡ declined index_refusal → ⊥
  unfolding enter_record
  extended_answer =
      by_test_lem (leb (length (record_bytes r)) k)
      (λ t. rw t (λ e. let z : ◌≡◌ {A = ℕ} 0 1 = cc in omega arith))
      (λ t. rw t (λ e. let z : ◌≡◌ {A = ℕ} 0 1 = cc in omega arith))

  verdict_answer : (v : Verdict) → ((a : AppendResult) → v ≡ turned a → a ≡ declined index_refusal → ⊥)
      → (enter_by v m r k (some b)).answer ≡ declined index_refusal → ⊥
  unfolding enter_by
  verdict_answer taken h e = extended_answer e
  verdict_answer (turned a) h e = h a refl e

-- ---- every list

pub never_stale_from : (room : ℕ) (j : Journal) (m : Model) → Holds room j m → (b : List ℕ) → Fresh m b → (cs : List Call)
    → Threaded operations j b cs → NeverStale (answers_of operations j cs)
unfolding answers_of
never_stale_from room j m h b fresh [] t = tt
never_stale_from room j m h b fresh (c ∷ cs) t =
    let s = step room j m h c in
    let v : Verdict = verdict_of room m c.request in
    let entry : Entry = enter_by v m (record_of c) (budget_of c) (some b) in
    let e : enter room m c ≡ entry =
    enter_is room m c ∙ ap (λ (i : Option (List ℕ)). enter_by v m (record_of c) (budget_of c) i) t.0 in
    let l = verdict_left m (record_of c) (budget_of c) b fresh v in
    let left = s.index ∙ ap (λ (x : Entry). x.index) e ∙ l.is in (
      (λ a.
          verdict_answer m (record_of c) (budget_of c) b fresh v (turned_otherwise room m c.request b t.0 fresh)
          (sym (ap (λ (x : Entry). x.answer) e) ∙ sym s.answer ∙ a)),
      never_stale_from room (perform operations j c).journal entry.model (rw e at s.holds) l.buffer l.right' cs (t.1 l.buffer left),
    )

-- from the empty journal, whose index is a count of 0
pub never_stale : (slice b : List ℕ) (cs : List Call) → take 2 b ≡ 0 ∷ 0 ∷ [] → Threaded operations (empty_in slice) b cs
    → NeverStale (answers_of operations (empty_in slice) cs)
unfolding empty_model fresh_index fresh_from index_bytes joined bytes_of in_front same
never_stale slice b cs h t = never_stale_from (length slice) (empty_in slice) empty_model (start slice) b (rw h refl) cs t
