-- Document 01's sentence on a cut, read off the theorem: after the call with k, the journal's length is the committed length before it and k, or the
-- record's length where that is less; up to it stand the records before and so many bytes of the record, and every byte beyond it is as it was.
-- A finished append is the same with all of the record. Assumes nothing.
use mathlib.Core.Path.{◌≡◌, refl, ap, ◌∙◌}
use Prim.Native.Nat.{ℕ, ◌+◌, ◌≤◌, ◌<◌, min}
use mathlib.Core.List.{List, [], ◌∷◌, ◌++◌, append-nil}
use native.Mathlib.Omega.{arith}
use lib.ListN.{length, take, drop}
use lib.Seq.{take_all, length-take-le}
use borrow.Author.Tests.{le-leb, lt-leb}
use Rattle.facts.proofs.Orders.{by_order}
use Rattle.journal_spec.specs.Record.{Record, record_bytes, records_bytes}
use Rattle.journal_spec.specs.Request.{all, up_to, Journal}
use Rattle.journal_spec.specs.Calls.{operations, Call, empty_in, perform, journal_after}
use Rattle.journal_spec.specs.Model.{Model, empty_model, committed_of, Entry, enter_record, enter_by, enter, model_after}
use Rattle.journal_spec.specs.Shown.{budget_of, record_of, Takes}
use Rattle.journal_spec.proofs.Given.{record_is, budget_all, budget_upto}
use Rattle.journal_spec.proofs.Verdicts.{taken_exactly}
use Rattle.journal_spec.proofs.Scanning.{records_snoc}
use Rattle.journal_spec.proofs.Placing.{lengths_snoc}
use Rattle.journal_spec.proofs.Demand.{Holds, start, step, after_all}
use Rattle.journal_spec.proofs.Shown.{enter_is}

-- the journal `after` is `before` with n bytes of the record r written behind the records of a model
pub record WrittenBehind (m : Model) (r : Record) (n : ℕ) (before after : Journal) : Type 0 where
  pub len : after.len ≡ committed_of m + n
  pub bytes : take after.len after.slice ≡ records_bytes m.records ++ take n (record_bytes r)
  pub beyond : drop after.len after.slice ≡ drop after.len before.slice

-- after a list that starts from a journal that holds what a model says
module _ (room : ℕ) (j : Journal) (m : Model) (h : Holds room j m) (cs : List Call) (c : Call)
    (t : Takes room (model_after room m cs) c.request) where
  -- the model before the call, and the journal before and after it
  abbrev model : Model
  model = model_after room m cs

  abbrev before : Journal
  before = journal_after operations j cs

  abbrev after : Journal
  after = (perform operations before c).journal

  abbrev size : ℕ
  size = length (record_bytes (record_of c))

  enters : (enter room model c).model ≡ (enter_record model (record_of c) (budget_of c) c.request.index).model
  unfolding enter_by
  enters =
      ap (λ (e : Entry). e.model) (enter_is room model c)
      ∙ rw ((taken_exactly room model c.request).1 t) refl

  finishes : size ≤ budget_of c → (enter room model c).model ≡ record { records = model.records ++ record_of c ∷ []; tail = [] }
  unfolding enter_record
  finishes reaches = enters ∙ rw (le-leb size (budget_of c) reaches) refl

  cuts : budget_of c < size → (enter room model c).model ≡ record { records = model.records; tail = take (budget_of c) (record_bytes (record_of c)) }
  unfolding enter_record
  cuts less = enters ∙ rw (lt-leb size (budget_of c) less) refl

  written : WrittenBehind model (record_of c) (min (budget_of c) size) before after
  unfolding committed_of
  written =
      let s = step room before model (after_all room j m h cs).holds c in
      by_order size (budget_of c)
      (λ reaches.
      let x = rw (finishes reaches) at s.holds in
      let all : min (budget_of c) size ≡ size = omega arith in
      rw all (record {
        len = omega (arith, x.len, lengths_snoc model.records (record_of c));
        bytes = x.bytes ∙ append-nil _ ∙ records_snoc model.records (record_of c) ∙ rw (take_all size (record_bytes (record_of c)) (omega arith)) refl;
        beyond = s.beyond;
      }))
      (λ less.
      let x = rw (cuts less) at s.holds in
      let some : min (budget_of c) size ≡ budget_of c = omega arith in
      rw some (record {
        len = omega (arith, x.len, length-take-le (budget_of c) (record_bytes (record_of c)) (omega arith));
        bytes = x.bytes;
        beyond = s.beyond;
      }))

  -- an append that is taken writes its record
  pub written_all_from : c.request.budget ≡ all → WrittenBehind model t.content (length (record_bytes t.content)) before after
  written_all_from e =
      let n : min (budget_of c) size ≡ size = omega (arith, budget_all c e) in
      rw (record_is c t.content t.given) (rw n at written)

  -- the call with k writes k bytes of it, or all where there are no more
  pub written_upto_from : (k : ℕ) → c.request.budget ≡ up_to k → WrittenBehind model t.content (min k (length (record_bytes t.content))) before after
  written_upto_from k e = rw (record_is c t.content t.given) (rw (budget_upto c k e) at written)

-- the same from the empty journal
module _ (slice : List ℕ) (cs : List Call) (c : Call) (t : Takes (length slice) (model_after (length slice) empty_model cs) c.request) where
  abbrev empty_then : Journal
  empty_then = journal_after operations (empty_in slice) cs

  pub written_all : c.request.budget ≡ all
      → WrittenBehind (model_after (length slice) empty_model cs) t.content (length (record_bytes t.content)) empty_then
      (perform operations empty_then c).journal
  written_all = written_all_from (length slice) (empty_in slice) empty_model (start slice) cs c t

  pub written_upto : (k : ℕ) → c.request.budget ≡ up_to k
      → WrittenBehind (model_after (length slice) empty_model cs) t.content (min k (length (record_bytes t.content))) empty_then
      (perform operations empty_then c).journal
  written_upto = written_upto_from (length slice) (empty_in slice) empty_model (start slice) cs c t
