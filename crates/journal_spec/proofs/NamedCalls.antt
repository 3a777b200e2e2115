-- Calls that need only one limit: day 1, the times 100 and 100, an even chance, and a name of n letters A, so that the record takes 32 + n bytes.
-- What the model makes of lists of them. Assumes nothing.
use mathlib.Core.Path.{◌≡◌, refl, ap, ◌∙◌}
use Prim.Native.Nat.{ℕ, zero, suc, ◌+◌, ◌≤◌, ◌<◌}
use mathlib.Core.List.{List, [], ◌∷◌, ◌++◌, map, append-nil}
use mathlib.Core.Option.{none}
use native.Mathlib.Omega.{arith}
use native.Mathlib.Nat.{zero-add}
use lib.ListN.{length, take, get_or, replicate, length-replicate, get_or-replicate}
use lib.Seq.{append_snoc}
use borrow.Author.Tests.{le-leb, lt-leb, lt-ltb}
use Rattle.journal_spec.specs.Refusals.{room_refusal, unless, first_of}
use Rattle.journal_spec.specs.Record.{Record, IsDay, last_of, record_bytes}
use Rattle.journal_spec.specs.Profile.{plain}
use Rattle.journal_spec.specs.Scan.{max_length}
use Rattle.journal_spec.specs.Request.{Budget, all, up_to, times, Request, Offer, gather_by, times_of, gathered_times, offer_of, allowed, extended, declined}
use Rattle.journal_spec.specs.Calls.{Call}
use Rattle.journal_spec.specs.Model.{Model, empty_model, lengths_of, committed_of, record_for, break_of, taken, by_number, by_log, by_break, first_turned}
use Rattle.journal_spec.specs.Model.{verdict_of}
use Rattle.journal_spec.specs.Model.{refreshed, index_wrong, index_full, Entry, enter_record}
use Rattle.journal_spec.specs.Model.{enter_by, enter, no_room, model_refusals, model_refusal, model_after}
use Rattle.journal_spec.specs.Ranges.{NameRanges, ChanceRanges, TimeRanges, AllHold, asked_of}
use Rattle.journal_spec.proofs.Records.{length_record}
use Rattle.journal_spec.proofs.Ranged.{passed, accepted_exactly}
use Rattle.journal_spec.proofs.Placing.{lengths_snoc}
use Rattle.journal_spec.proofs.Scanning.{plain_keeps, last_of_snoc}

-- day 1, times 100 and 100, an even chance
unfoldable pub request : ℕ → Budget → Request
request n budget = record {
  day = 1;
  name = replicate n 0x41;
  chances = 500_000 ∷ [];
  source = times (100 ∷ 100 ∷ []);
  budget = budget;
  rule = plain;
  index = none;
}

unfoldable pub named : ℕ → Offer
named n = record { day = 1; name = replicate n 0x41; chances = 500_000 ∷ []; times = 100 ∷ 100 ∷ [] }

pub request_day : (n : ℕ) (budget : Budget) → IsDay (request n budget).day
unfolding request
request_day n budget = omega arith

-- a call of such a request
unfoldable pub call_named : ℕ → Budget → Call
call_named n budget = record { request = request n budget; day_fits = request_day n budget }

-- append, and the call with the budget k
abbrev pub append_named : ℕ → Call
append_named n = call_named n all

abbrev pub append_named_upto : ℕ → ℕ → Call
append_named_upto n k = call_named n (up_to k)

-- its record takes 32 + n bytes
pub named_length : (n : ℕ) → length (record_bytes (record_for (named n))) ≡ 32 + n
unfolding record_for named
named_length n = length_record (record_for (named n)) ∙ rw (length-replicate {A = ℕ} n 0x41) (omega arith)

-- the bytes that records with names of these lengths take
unfoldable pub sizes : List ℕ → ℕ
sizes [] = 0
sizes (n ∷ ns) = 32 + n + sizes ns

-- their records
unfoldable pub named_records : List ℕ → List Record
named_records ns = map (λ (n : ℕ). record_for (named n)) ns

-- each is the length of a name
abbrev pub Names : List ℕ → Type 0
Names [] = Unit {0}
Names (n ∷ ns) = (1 ≤ n) × (n ≤ 32) × Names ns

pub lengths_named : (ns : List ℕ) → lengths_of (named_records ns) ≡ sizes ns
unfolding named_records lengths_of sizes
lengths_named [] = refl
lengths_named (n ∷ ns) = rw (named_length n, lengths_named ns) refl

-- a list of finished appends
abbrev pub appends : List ℕ → List Call
appends ns = map append_named ns

-- a model takes such an offer where its last day is not later than 1 and there is room
accepts : (room : ℕ) (m : Model) (n : ℕ) (budget : Budget) → (last_of m.records).day ≤ 1 → 1 ≤ n → n ≤ 32
    → committed_of m + (32 + n) ≤ room → committed_of m + (32 + n) ≤ max_length
    → AllHold (asked_of room m (request n budget) (record_for (offer_of (request n budget))))
unfolding request named record_for offer_of times_of gather_by gathered_times
accepts room m n budget day least most fits fits' =
    let name : NameRanges (replicate n 0x41) = record {
      least = rw (length-replicate {A = ℕ} n 0x41) least;
      most = rw (length-replicate {A = ℕ} n 0x41) most;
      bytes = λ i k. rw (get_or-replicate {A = ℕ} n i 0x41 0 (rw (length-replicate {A = ℕ} n 0x41) at k)) (omega arith, omega arith);
    } in
    let chances : ChanceRanges (500_000 ∷ []) = record {
      least = omega arith;
      most = omega arith;
      range = λ i k. one_chance i k;
      rising = λ i k. absurd (omega arith);
    } in
    let times : TimeRanges (100 ∷ 100 ∷ []) = record {
      least = omega arith;
      most = omega arith;
      range = λ i k. two_times i k;
    } in
    (day, (name, (chances, (λ i k. even_chance_lem i k, (times, (tt, ((rw (named_length n) fits, rw (named_length n) fits'), (tt, (tt, tt)))))))))
  where
    one_chance : (i : ℕ) → i < 1 → (1 ≤ get_or (500_000 ∷ []) i 0) × (get_or (500_000 ∷ []) i 0 ≤ 999_999)
    one_chance zero k = (omega arith, omega arith)
    one_chance (suc i) k = absurd (omega arith)

    even_chance_lem : (i : ℕ) → i < 1 → get_or (500_000 ∷ []) i 0 ≤ 500_000
    even_chance_lem zero k = omega arith
    even_chance_lem (suc i) k = absurd (omega arith)

    two_times : (i : ℕ) → i < 2 → (1 ≤ get_or (100 ∷ 100 ∷ []) i 0) × (get_or (100 ∷ 100 ∷ []) i 0 ≤ 1_048_575)
    two_times zero k = (omega arith, omega arith)
    two_times (suc zero) k = (omega arith, omega arith)
    two_times (suc (suc i)) k = absurd (omega arith)

-- a model whose last day is not later than 1
pub record Early (room : ℕ) (m : Model) (ns : List ℕ) : Type 0 where
  pub day : (last_of m.records).day ≤ 1
  pub names : Names ns
  pub fits : committed_of m + sizes ns ≤ room
  pub most : committed_of m + sizes ns ≤ max_length

-- by the plain rule nothing that stands is in the way
plainly : (m : Model) (r : Record) (k : ℕ) → enter_by (first_turned (taken ∷ by_break (break_of plain m) ∷ taken ∷ [])) m r k none ≡ enter_record m r k none
unfolding break_of
plainly m r k = rw (plain_keeps 0 m.records) (unfold by_break first_turned enter_by in refl)

entered : (room : ℕ) (m : Model) (n : ℕ) (budget : Budget) → (last_of m.records).day ≤ 1 → 1 ≤ n → n ≤ 32
    → committed_of m + (32 + n) ≤ room → committed_of m + (32 + n) ≤ max_length
    → enter room m (call_named n budget) ≡ enter_record m (record_for (named n)) (allowed budget (length (record_bytes (record_for (named n))))) none
unfolding enter enter_by refreshed verdict_of first_turned by_log by_number call_named request named offer_of times_of gather_by gathered_times
entered room m n budget day least most fits fits' =
    rw ((accepted_exactly room m (request n budget)).1 (accepts room m n budget day least most fits fits'))
    (plainly m (record_for (named n)) (allowed budget (length (record_bytes (record_for (named n))))))

pub finished : (room : ℕ) (m : Model) (n : ℕ) → (last_of m.records).day ≤ 1 → 1 ≤ n → n ≤ 32
    → committed_of m + (32 + n) ≤ room → committed_of m + (32 + n) ≤ max_length
    → enter room m (append_named n)
    ≡ record { answer = extended (committed_of m + (32 + n)); model = record { records = m.records ++ record_for (named n) ∷ []; tail = [] }; index = none }
unfolding allowed enter_record refreshed
finished room m n day least most fits fits' =
    entered room m n all day least most fits fits'
    ∙ rw (le-leb (length (record_bytes (record_for (named n)))) (length (record_bytes (record_for (named n)))) (omega arith), named_length n) refl

-- after finished appends the model holds their records
pub after_appends : (room : ℕ) (rs : List Record) (ns : List ℕ) → Early room (record { records = rs; tail = [] }) ns
    → model_after room (record { records = rs; tail = [] }) (appends ns) ≡ record { records = rs ++ named_records ns; tail = [] }
unfolding model_after named_records sizes committed_of
after_appends room rs [] h = rw append-nil refl
after_appends room rs (n ∷ ns) h =
    let m : Model = record { records = rs; tail = [] } in
    let r : Record = record_for (named n) in
    let e = finished room m n h.day h.names.0 h.names.1 (omega (arith, h.fits)) (omega (arith, h.most)) in
    let day : (last_of (rs ++ r ∷ [])).day ≤ 1 = rw (last_of_snoc rs r) (unfold record_for named in omega arith) in
    let size : lengths_of (rs ++ r ∷ []) ≡ lengths_of rs + (32 + n) = lengths_snoc rs r ∙ rw (named_length n) refl in
    ap (λ (x : Entry). model_after room x.model (appends ns)) e
    ∙ after_appends room (rs ++ r ∷ []) ns
    (record { day = day; names = h.names.2; fits = omega (arith, size, h.fits); most = omega (arith, size, h.most) })
    ∙ rw append_snoc refl

-- a record that is cut after k bytes
pub cut_short : (room : ℕ) (n k : ℕ) → 1 ≤ n → n ≤ 32 → k < 32 + n → 32 + n ≤ room
    → enter room empty_model (append_named_upto n k)
    ≡ record { answer = extended k; model = record { records = []; tail = take k (record_bytes (record_for (named n))) }; index = none }
unfolding allowed enter_record refreshed empty_model committed_of lengths_of last_of
cut_short room n k least most less fits =
    entered room empty_model n (up_to k) (omega arith) least most (omega arith) (omega arith)
    ∙ rw (named_length n, lt-leb (32 + n) k less, zero-add k) refl

-- no room is the refusal where nothing else is refused
pub full : (room : ℕ) (m : Model) (n : ℕ) → (last_of m.records).day ≤ 1 → 1 ≤ n → n ≤ 32 → committed_of m + (32 + n) ≤ max_length
    → room < committed_of m + (32 + n) → model_refusal room m (request n all) ≡ room_refusal
unfolding model_refusal model_refusals unless first_of no_room index_wrong index_full request named offer_of times_of gather_by gathered_times
full room m n day least most fits less =
    let big : ℕ = committed_of m + (32 + n) in
    let p = passed big m (request n all) ((accepted_exactly big m (request n all)).1 (accepts big m n all day least most (omega arith) fits)) in
    rw (p.day, p.name, p.chances, p.even, p.times, p.rule, named_length n, lt-ltb room (committed_of m + (32 + n)) less) refl

-- what the model answers then
pub turned_away : (room : ℕ) (m : Model) (n : ℕ) → model_refusal room m (request n all) ≡ room_refusal
    → (enter room m (append_named n)).answer ≡ declined room_refusal
unfolding enter enter_by refreshed verdict_of first_turned by_log by_number call_named request named offer_of times_of gather_by gathered_times break_of
turned_away room m n e = rw e (rw (plain_keeps 0 m.records) (unfold by_break first_turned enter_by in refl))
