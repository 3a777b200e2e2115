-- A request has what a call is handed, and what append and the model read of it is what stands in its fields: its day, name and chances; the
-- times handed in, or those of its name's lines in the log; and for a budget all of the record, or k bytes. Assumes nothing.
use mathlib.Core.Path.{◌≡◌, refl, sym, ap, ◌∙◌}
use mathlib.Core.Logic.{◌↔◌}
use Prim.Native.Nat.{ℕ, ◌≤◌}
use mathlib.Core.List.{List, map}
use mathlib.Core.Option.{Option}
use native.Mathlib.Omega.{arith}
use lib.ListN.{length}
use lib.Ieee.{binary64, to_bits}
use Rattle.limit.specs.Formula.{sample_form}
use Rattle.journal_spec.specs.Log.{gathered, misread, gather_of}
use Rattle.journal_spec.specs.Record.{Record, record_bytes}
use Rattle.journal_spec.specs.Profile.{Rule}
use Rattle.journal_spec.specs.Request.{Budget, all, up_to, Source, times, log, Request, request_of, gather_by, times_of, gathered_times}
use Rattle.journal_spec.specs.Request.{offer_of, allowed}
use Rattle.journal_spec.specs.Calls.{Call}
use Rattle.journal_spec.specs.Model.{worked_out, record_for}
use Rattle.journal_spec.specs.Shown.{offer_by, record_of, budget_of, Reaches, GivenTimes, handed, in_log, Given}

-- ---- what a call is handed

-- each field of a call's request is what the call is handed for it
pub request_given : (day : ℕ) (name chances : List ℕ) (source : Source) (budget : Budget) (rule : Rule) (index : Option (List ℕ))
    → let q = request_of day name chances source budget rule index in
    (q.day ≡ day) × (q.name ≡ name) × (q.chances ≡ chances) × (q.source ≡ source) × (q.budget ≡ budget) × (q.rule ≡ rule) × (q.index ≡ index)
request_given day name chances source budget rule index = (refl, refl, refl, refl, refl, refl, refl)

-- ---- times

-- the times of a request are those given in it
pub times_given : (q : Request) (ts : List ℕ) → (times_of q ≡ gathered ts) ↔ GivenTimes q ts
unfolding times_of
times_given q ts = (λ h. by_source q.source refl h, λ g. from_given g)
  where
    by_source : (s : Source) → q.source ≡ s → gather_by q.name s ≡ gathered ts → GivenTimes q ts
    by_source (times us) e h = unfold gather_by in let same : us ≡ ts = cc in handed (e ∙ ap times same)
    by_source (log bs) e h = unfold gather_by in in_log e h

    from_given : GivenTimes q ts → gather_by q.name q.source ≡ gathered ts
    from_given (handed e) = unfold gather_by in rw e refl
    from_given (in_log e h) = unfold gather_by in rw e h

-- and where it has none, a line of its log is refused
pub record LineRefused (q : Request) (n p : ℕ) : Type 0 where
  pub bytes : List ℕ
  pub is_log : q.source ≡ log bytes
  pub refused : gather_of q.name bytes ≡ misread n p

line_read : (q : Request) (bytes : List ℕ) (n p : ℕ) → q.source ≡ log bytes → gather_of q.name bytes ≡ misread n p
    → gather_by q.name q.source ≡ misread n p
unfolding gather_by
line_read q bytes n p e h = rw e h

pub line_refused : (q : Request) (n p : ℕ) → (times_of q ≡ misread n p) ↔ LineRefused q n p
unfolding times_of
line_refused q n p = (λ h. by_source q.source refl h, λ l. line_read q l.bytes n p l.is_log l.refused)
  where
    by_source : (s : Source) → q.source ≡ s → gather_by q.name s ≡ misread n p → LineRefused q n p
    by_source (times us) e h = unfold gather_by in let z : ◌≡◌ {A = ℕ} 0 1 = cc in absurd (omega arith)
    by_source (log bs) e h = unfold gather_by in record { bytes = bs; is_log = e; refused = h }

-- ---- the record

-- the record of a request has what is given in it
pub is_given : (q : Request) (ts : List ℕ) → GivenTimes q ts → Given q (record_for (offer_of q))
unfolding record_for offer_of worked_out gathered_times
is_given q ts g =
    let e : gathered_times (times_of q) ≡ ts = ap gathered_times ((times_given q ts).1 g) in
    record { form = refl; day = refl; name = refl; chances = refl; times = rw e g; limits = refl }

same_fields : (form day : ℕ) (name chances ts limits : List ℕ) (s : Record) → form ≡ s.form → day ≡ s.day → name ≡ s.name
    → chances ≡ s.chances → ts ≡ s.times → limits ≡ s.limits
    → record { form = form; day = day; name = name; chances = chances; times = ts; limits = limits } ≡ s
same_fields form day name chances ts limits s f d n c t l = rw (f, d, n, c, t, l) refl

-- and no other record does
pub given_is : (q : Request) (r : Record) → Given q r → r ≡ record_for (offer_of q)
unfolding record_for offer_of worked_out gathered_times
given_is q r g =
    let e : gathered_times (times_of q) ≡ r.times = ap gathered_times ((times_given q r.times).1 g.times) in
    same_fields r.form r.day r.name r.chances r.times r.limits (record_for (offer_of q)) g.form g.day g.name g.chances
    (sym e) (g.limits ∙ ap (λ (ts : List ℕ). map (λ (c : ℕ). to_bits binary64 (worked_out sample_form ts c)) q.chances) (sym e))

-- so that a call's record is the one given in its request
pub record_is : (c : Call) (r : Record) → Given c.request r → r ≡ record_of c
unfolding record_of offer_by
record_is c r g = given_is c.request r g

-- ---- the budget

module _ (c : Call) where
  pub budget_all : c.request.budget ≡ all → budget_of c ≡ length (record_bytes (record_of c))
  unfolding budget_of allowed
  budget_all e = rw e refl

  pub budget_upto : (k : ℕ) → c.request.budget ≡ up_to k → budget_of c ≡ k
  unfolding budget_of allowed
  budget_upto k e = rw e refl

  -- it reaches the record's last byte where it is all, or k bytes and the record has no more
  pub budget_reaches : (length (record_bytes (record_of c)) ≤ budget_of c) ↔ Reaches c.request.budget (length (record_bytes (record_of c)))
  unfolding budget_of
  budget_reaches = by_budget c.request.budget
    where
      by_budget : (b : Budget)
          → (length (record_bytes (record_of c)) ≤ allowed b (length (record_bytes (record_of c)))) ↔ Reaches b (length (record_bytes (record_of c)))
      by_budget all = unfold allowed in (λ h. tt, λ h. omega arith)
      by_budget (up_to k) = unfold allowed in (λ h. h, λ h. h)
