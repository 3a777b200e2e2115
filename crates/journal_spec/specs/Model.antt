-- The model, document 01's book: fed the calls' arguments, a log's bytes among them, and the slice's length, it says what each call answers
-- and what the journal holds. It is written from the paper's paragraph and shares with append the layout, the formula and what a log is read
-- as, but none of append's own definitions except the types of a request and an answer, which times and how many bytes a request asks for
-- (Request; by the request's own fields again in Shown), and what keeps a rule (Profile; as inequalities again in Ranges).
use Rattle.std.specs.Prelude.{ℕ, zero, suc, ◌+◌, List, [], ◌∷◌, ◌++◌, map, Bool, false, cond, ◌&&◌, ◌||◌, not, length, take, drop, leb, ltb, Float}
use Rattle.std.proofs.Math.Option.{Option, none, some}
use Rattle.std.specs.Float.{binary64}
use Rattle.std.specs.Float.Ieee.{to_bits}
use Rattle.limit.specs.Times.{min_ticks, max_ticks, min_count, max_count, in_range, sum_of, squares_of}
use Rattle.limit.specs.Formula.{sample_form, formula_of}
use Rattle.limit.specs.Answer.{chance_refusal, times_refusal}
use Rattle.limit.specs.Limit.{min_chance, max_chance}
use Rattle.journal_spec.specs.Refusals.{day_refusal, name_refusal, room_refusal, index_refusal}
use Rattle.journal_spec.specs.Refusals.{index_room_refusal, even_refusal, profile_refusal, unless, first_of}
use Rattle.journal_spec.specs.Tests.{each, rising, name_good}
use Rattle.journal_spec.specs.Index.{IndexEntry, index_bytes, in_front, fresh_index}
use Rattle.journal_spec.specs.Log.{Gathered, gathered, misread}
use Rattle.journal_spec.specs.Record.{Record, last_of, min_chances, max_chances, even_chance, record_bytes}
use Rattle.journal_spec.specs.Profile.{Rule, keeps}
use Rattle.journal_spec.specs.Scan.{max_length}
use Rattle.journal_spec.specs.Request.{Request, Offer, times_of, offer_of, allowed, AppendResult, extended, declined, declined_at, damaged}
use Rattle.journal_spec.specs.Calls.{Call}

-- document 01's book: a list of records and a torn tail
pub record Model : Type 0 where
  pub records : List Record
  pub tail : List ℕ

-- both empty at first
unfoldable pub empty_model : Model
empty_model = record { records = []; tail = [] }

-- the sum of the records' lengths
unfoldable pub lengths_of : List Record → ℕ
lengths_of [] = 0
lengths_of (r ∷ rs) = length (record_bytes r) + lengths_of rs

-- the model's committed length, document 01's kept
unfoldable pub committed_of : Model → ℕ
committed_of m = lengths_of m.records

-- ---- the record of the arguments

-- the formula's value for the times at a chance, under a form
unfoldable pub worked_out : ℕ → List ℕ → ℕ → Float
worked_out form times c = formula_of form (length times) (sum_of times) (squares_of times) c

-- what the layout holds for the arguments, as a record of form 2, its limits by that form's formula
unfoldable pub record_for : Offer → Record
record_for o = record {
  form = sample_form;
  day = o.day;
  name = o.name;
  chances = o.chances;
  times = o.times;
  limits = map (λ (c : ℕ). to_bits binary64 (worked_out sample_form o.times c)) o.chances;
}

-- ---- what is declined

-- 3: day below that of the model's last record
unfoldable pub day_falls : Model → Offer → Bool
day_falls m o = ltb o.day (last_of m.records).day

-- 5: chance count, range or not rising
unfoldable pub chances_good : List ℕ → Bool
chances_good chances = in_range min_chances max_chances (length chances) && each (in_range min_chance max_chance) chances && rising chances

-- 17: a chance above 500,000
unfoldable pub chances_even : List ℕ → Bool
chances_even chances = each (λ (c : ℕ). leb c even_chance) chances

-- 6: time count or range
unfoldable pub times_good : List ℕ → Bool
times_good times = in_range min_count max_count (length times) && each (in_range min_ticks max_ticks) times

-- 9: the committed length and the record's length together beyond the slice or the longest journal
unfoldable pub no_room : ℕ → Model → Offer → Bool
no_room room m o = ltb room (committed_of m + length (record_bytes (record_for o))) || ltb max_length (committed_of m + length (record_bytes (record_for o)))

-- 14: an index is handed, and the one of the model's records is not at its buffer's front
unfoldable pub index_wrong : Model → Option (List ℕ) → Bool
index_wrong m none = false
index_wrong m (some b) = not (in_front (index_bytes (fresh_index m.records)) b)

-- 15: its buffer is shorter than the index with the record
unfoldable pub index_full : Model → Record → Option (List ℕ) → Bool
index_full m r none = false
index_full m r (some b) = ltb (length b) (length (index_bytes (fresh_index (m.records ++ r ∷ []))))

-- what declines a request, in the papers' order
unfoldable pub model_refusals : ℕ → Model → Request → List ℕ
model_refusals room m q =
    let o = offer_of q in
    unless (not (day_falls m o)) day_refusal
    ∷ unless (name_good o.name) name_refusal
    ∷ unless (chances_good o.chances) chance_refusal
    ∷ unless (chances_even o.chances) even_refusal
    ∷ unless (times_good o.times) times_refusal
    ∷ unless (keeps q.rule (record_for o)) profile_refusal
    ∷ unless (not (no_room room m o)) room_refusal
    ∷ unless (not (index_wrong m q.index)) index_refusal
    ∷ unless (not (index_full m (record_for o) q.index)) index_room_refusal
    ∷ []

-- the first of these, or 0
unfoldable pub model_refusal : ℕ → Model → Request → ℕ
model_refusal room m q = first_of (model_refusals room m q)

-- ---- what stands

-- the place of the first record that breaks the rule, from the place `at` on
unfoldable pub break_from : Rule → ℕ → List Record → Option ℕ
break_from rule at [] = none
break_from rule at (r ∷ rs) = cond (keeps rule r) (break_from rule (at + length (record_bytes r)) rs) (some at)

unfoldable pub break_of : Rule → Model → Option ℕ
break_of rule m = break_from rule 0 m.records

-- ---- a call

-- what the model says of a call: its record is entered, or it is turned away with an answer, and then the model stays
pub data Verdict : Type 0 where
  taken : Verdict
  turned : AppendResult → Verdict

-- declined by a number, or taken where there is none
unfoldable pub by_number : ℕ → Verdict
by_number zero = taken
by_number (suc n) = turned (declined (suc n))

-- the log's refusal, with its place
unfoldable pub by_log : Gathered → Verdict
by_log (gathered ts) = taken
by_log (misread n p) = turned (declined_at n p)

-- the first that turns the call away
unfoldable pub first_turned : List Verdict → Verdict
first_turned [] = taken
first_turned (taken ∷ vs) = first_turned vs
first_turned (turned answer ∷ vs) = turned answer

-- damaged by a record that stands and breaks the rule, at its first byte
unfoldable pub by_break : Option ℕ → Verdict
by_break none = taken
by_break (some at) = turned (damaged profile_refusal at)

-- the log is judged before the journal, and the journal before what is offered
unfoldable pub verdict_of : ℕ → Model → Request → Verdict
verdict_of room m q = first_turned (by_log (times_of q) ∷ by_break (break_of q.rule m) ∷ by_number (model_refusal room m q) ∷ [])

-- a call's answer, and the model and the index's buffer after it
pub record Entry : Type 0 where
  pub answer : AppendResult
  pub model : Model
  pub index : Option (List ℕ)

-- an index made afresh at the buffer's front, where one is handed; the bytes beyond it stay
unfoldable pub refreshed : List IndexEntry → Option (List ℕ) → Option (List ℕ)
refreshed es none = none
refreshed es (some b) = some (index_bytes es ++ drop (length (index_bytes es)) b)

-- The record is finished if the budget is at least its length, and then the index has it; else its first k bytes are the torn tail, and the
-- index is as it was.
unfoldable pub enter_record : Model → Record → ℕ → Option (List ℕ) → Entry
enter_record m r k index =
    cond (leb (length (record_bytes r)) k)
    (record {
      answer = extended (committed_of m + length (record_bytes r));
      model = record { records = m.records ++ r ∷ []; tail = [] };
      index = refreshed (fresh_index (m.records ++ r ∷ [])) index;
    })
    (record {
      answer = extended (committed_of m + k);
      model = record { records = m.records; tail = take k (record_bytes r) };
      index = index;
    })

unfoldable pub enter_by : Verdict → Model → Record → ℕ → Option (List ℕ) → Entry
enter_by taken m r k index = enter_record m r k index
enter_by (turned answer) m r k index = record { answer = answer; model = m; index = index }

-- a call: its budget is all of its record, or k
unfoldable pub enter : ℕ → Model → Call → Entry
enter room m c =
    let q = c.request in
    let r = record_for (offer_of q) in
    enter_by (verdict_of room m q) m r (allowed q.budget (length (record_bytes r))) q.index

-- ---- a list of calls

-- the model after a list of calls
unfoldable pub model_after : ℕ → Model → List Call → Model
model_after room m [] = m
model_after room m (c ∷ cs) = model_after room (enter room m c).model cs

-- the answers that it gives
unfoldable pub model_answers : ℕ → Model → List Call → List AppendResult
model_answers room m [] = []
model_answers room m (c ∷ cs) = (enter room m c).answer ∷ model_answers room (enter room m c).model cs

-- and the index's buffer after each
unfoldable pub model_indexes : ℕ → Model → List Call → List (Option (List ℕ))
model_indexes room m [] = []
model_indexes room m (c ∷ cs) = (enter room m c).index ∷ model_indexes room (enter room m c).model cs
