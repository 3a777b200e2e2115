-- An append that is handed an index, by appends that are not: with a budget of nothing such a one tells whether the journal's rows decline, and
-- where nothing declines it writes what the other does. Assumes nothing.
use mathlib.Core.Path.{◌≡◌, refl, sym, ap, ap₂, ◌∙◌}
use Prim.Native.Nat.{ℕ, zero, suc, ◌<◌}
use mathlib.Core.List.{List, [], ◌∷◌, ◌++◌}
use mathlib.Core.Bool.{Bool, true, false, cond}
use mathlib.Core.Option.{Option, none, some}
use native.Mathlib.Omega.{arith}
use lib.ListN.{length, take}
use lib.Dec.{leb}
use Rattle.journal_spec.specs.Refusals.{first_of}
use Rattle.journal_spec.specs.Record.{last_of, record_bytes}
use Rattle.journal_spec.specs.Scan.{Placed, records_of, standing}
use Rattle.journal_spec.specs.Index.{index_bytes, index_of}
use Rattle.journal_spec.specs.Request.{Journal, Budget, up_to, Request, request_of, times_of, offer_of, allowed, Outcome, declined}
use Rattle.journal_spec.specs.Append.{offered, judge_room, of_handed, judge_index, judge_index_room, next_index, append_refusals, written}
use Rattle.journal_spec.specs.Append.{unchanged, extend, put_index, settle, append_to}
use Rattle.journal_spec.proofs.Writing.{written_nil}
use Rattle.std.specs.Prelude.{Result, Err}
use Rattle.refusals.specs.declared.Refusal.{Refusal}
use Rattle.refusals.specs.Refusals.{number_of}
use Rattle.journal.specs.declared.AppendError.{AppendError}
use Rattle.journal.specs.declared.AppendError.TheVariants as A
use Rattle.journal.specs.Handed.{offer_refusals}
use Rattle.journal.specs.Answers.{append_meaning, length_after, outcome_with, outcome_of}
use Rattle.journal.proofs.Checking.{first_front, first_back}
use Rattle.journal.proofs.Extending.{first_trailing, either_none}
use Rattle.journal_index.specs.Outcome.{indexed_outcome}
use Rattle.journal_index.specs.Standing.{refusal_in}

-- the request without its index, and with another budget
unfoldable pub without : Budget → Request → Request
without budget q = request_of q.day q.name q.chances q.source budget q.rule none

first_of_front : (ns ms : List ℕ) → first_of (ns ++ ms) ≡ 0 → first_of ns ≡ 0
unfolding first_of
first_of_front [] ms h = refl
first_of_front (zero ∷ ns) ms h = first_of_front ns ms h
first_of_front (suc n ∷ ns) ms h = h

either : (t : Bool) (x y : List ℕ) → some (cond t x y) ≡ cond t (some x) (some y)
either true x y = refl
either false x y = refl

module _ (j : Journal) (ps : List Placed) (committed : ℕ) (q : Request) (b : List ℕ) (handed : q.index ≡ some b) where
  -- the record's bytes
  abbrev bytes : List ℕ
  bytes = record_bytes (offered (offer_of q))

  -- the rows of the journal alone: those of the offer, then the room
  unfoldable pub journal_rows : List ℕ
  journal_rows = offer_refusals q.rule (last_of (records_of ps)) (offer_of q) ++ judge_room (length j.slice) committed (length bytes) ∷ []

  -- the rows of the index
  unfoldable pub index_rows : List ℕ
  index_rows = judge_index (index_of ps) b ∷ judge_index_room (next_index ps committed (offer_of q)) b ∷ []

  pub all_rows : append_refusals (length j.slice) ps committed q ≡ journal_rows ++ index_rows
  unfolding append_refusals offer_refusals journal_rows index_rows of_handed
  all_rows = rw handed refl

  -- ---- without the index

  module _ (budget : Budget) where
    rows_without : first_of (append_refusals (length j.slice) ps committed (without budget q)) ≡ first_of journal_rows
    unfolding append_refusals offer_refusals journal_rows of_handed without offer_of times_of
    rows_without = first_trailing (offer_refusals q.rule (last_of (records_of ps)) (offer_of q) ++ judge_room (length j.slice) committed (length bytes) ∷ [])

    settles_without : append_to (standing ps committed) j (without budget q)
        ≡ settle (first_of journal_rows) j none committed (take (allowed budget (length bytes)) bytes) none
    unfolding append_to without offer_of times_of put_index
    settles_without =
        ap₂ (λ (n : ℕ) (next : Option (List ℕ)). settle n j none committed (take (allowed budget (length bytes)) bytes) next)
        rows_without (either_none (leb (length bytes) (allowed budget (length bytes))))

  -- with a budget of nothing: its answer has the refusal, and no byte is changed
  pub record JudgedBy (r : Result ℕ AppendError) (after : List ℕ) : Type 0 where
    pub refusal : refusal_in (append_meaning r) ≡ first_of journal_rows
    pub same : after ≡ j.slice
    pub declines : (f : Refusal) → r ≡ Err (A.Declined f) → 0 < first_of journal_rows

  settled_judged : (r : Result ℕ AppendError) (after : List ℕ) (n : ℕ) → outcome_of j.len r after ≡ settle n j none committed [] none
      → (refusal_in (append_meaning r) ≡ n) × (after ≡ j.slice) × ((f : Refusal) → r ≡ Err (A.Declined f) → 0 < n)
  unfolding settle extend unchanged outcome_with refusal_in append_meaning
  settled_judged r after zero e = (
    ap (λ (o : Outcome). refusal_in o.answer) e,
    ap (λ (o : Outcome). o.journal.slice) e ∙ written_nil j.slice committed,
    λ f t.
        let answered = ap (λ (o : Outcome). o.answer) e in
        let declines = ap append_meaning t in
        let z : ◌≡◌ {A = ℕ} 0 1 = cc in
        omega arith,
  )
  settled_judged r after (suc n) e =
      (ap (λ (o : Outcome). refusal_in o.answer) e, ap (λ (o : Outcome). o.journal.slice) e, λ f t. omega arith)

  pub judged : (r : Result ℕ AppendError) (after : List ℕ) → outcome_of j.len r after ≡ append_to (standing ps committed) j (without (up_to 0) q)
      → JudgedBy r after
  unfolding allowed
  judged r after e =
      let s = settled_judged r after (first_of journal_rows) (e ∙ settles_without (up_to 0)) in
      record { refusal = s.0; same = s.1; declines = s.2 }

  -- ---- with it

  -- declined
  declined_as : (n : ℕ) → 0 < n → n ≡ first_of (journal_rows ++ index_rows)
      → record { answer = declined n; journal = record { slice = j.slice; len = j.len }; index = some b } ≡ append_to (standing ps committed) j q
  unfolding append_to settle unchanged
  declined_as zero h e = absurd (omega arith)
  declined_as (suc n) h e = rw (ap first_of all_rows ∙ sym e, handed) refl

  declined_by : (r : Refusal) (n : ℕ) → number_of r ≡ n → 0 < n → n ≡ first_of (journal_rows ++ index_rows)
      → indexed_outcome j.len (Err (A.Declined r)) j.slice b ≡ append_to (standing ps committed) j q
  unfolding outcome_with append_meaning length_after
  declined_by r n is h e = declined_as (number_of r) (rw is h) (is ∙ e)

  -- by a row of the journal's
  pub declined_first : (r : Refusal) (n : ℕ) → number_of r ≡ n → 0 < n → n ≡ first_of journal_rows
      → indexed_outcome j.len (Err (A.Declined r)) j.slice b ≡ append_to (standing ps committed) j q
  declined_first r n is h e = declined_by r n is h (first_front n journal_rows index_rows h e)

  -- by one of the index's
  pub declined_then : (r : Refusal) (n : ℕ) → number_of r ≡ n → 0 < n → first_of journal_rows ≡ 0 → n ≡ first_of index_rows
      → indexed_outcome j.len (Err (A.Declined r)) j.slice b ≡ append_to (standing ps committed) j q
  declined_then r n is h z e = declined_by r n is h (e ∙ sym (first_back journal_rows index_rows z))

  pub none_declines : first_of journal_rows ≡ 0 → first_of index_rows ≡ 0 → first_of (append_refusals (length j.slice) ps committed q) ≡ 0
  none_declines z y = ap first_of all_rows ∙ first_back journal_rows index_rows z ∙ y

  -- written: the index's buffer is the amended one where the record is finished
  module _ (z : first_of (append_refusals (length j.slice) ps committed q) ≡ 0) where
    journal_none : first_of journal_rows ≡ 0
    journal_none = first_of_front journal_rows index_rows (sym (ap first_of all_rows) ∙ z)

    pub index_none : first_of index_rows ≡ 0
    index_none = sym (first_back journal_rows index_rows journal_none) ∙ sym (ap first_of all_rows) ∙ z

    pub offer_none : first_of (offer_refusals q.rule (last_of (records_of ps)) (offer_of q)) ≡ 0
    unfolding journal_rows
    offer_none = first_of_front (offer_refusals q.rule (last_of (records_of ps)) (offer_of q)) _ journal_none

    pub written_with : (r : Result ℕ AppendError) (after index : List ℕ) → outcome_of j.len r after ≡ append_to (standing ps committed) j (without q.budget q)
        → index ≡ cond (leb (length bytes) (allowed q.budget (length bytes))) (written b 0 (index_bytes (next_index ps committed (offer_of q)))) b
        → indexed_outcome j.len r after index ≡ append_to (standing ps committed) j q
    unfolding append_to settle extend put_index outcome_with offer_of times_of
    written_with r after index e i =
        let s : outcome_of j.len r after ≡ extend j.slice committed (take (allowed q.budget (length bytes)) bytes) none =
        e ∙ settles_without q.budget ∙ rw journal_none refl in
        rw (z, handed)
        (ap₂ (λ (o : Outcome) (x : Option (List ℕ)). record { answer = o.answer; journal = o.journal; index = x }) s
        (ap some i ∙ either (leb (length bytes) (allowed q.budget (length bytes))) _ b))
