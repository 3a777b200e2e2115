-- What becomes of an offer, as the code finds it: declined, no room, or its first bytes are written after the committed length.
-- Assumes nothing.
use mathlib.Core.Path.{◌≡◌, refl, sym, ap, ap₂, ◌∙◌}
use Prim.Native.Nat.{ℕ, zero, suc, ◌+◌, ◌-◌, ◌≤◌, ◌<◌, min}
use mathlib.Core.Bool.{Bool, true, false, not, cond}
use mathlib.Core.Option.{Option, none}
use mathlib.Core.List.{List, [], ◌∷◌, ◌++◌}
use native.Mathlib.Omega.{arith}
use Rattle.std.specs.Prelude.{Ok, Err}
use Rattle.refusals.specs.declared.Refusal.{Refusal}
use Rattle.refusals.specs.declared.Refusal.TheVariants as R
use Rattle.refusals.specs.Refusals.{number_of}
use lib.ListN.{length, take, drop, length-take}
use lib.Seq.{take_all}
use lib.Dec.{leb}
use borrow.Author.Tests.{not-true, not-false, leb-true}
use Rattle.facts.proofs.Orders.{by_order}
use Rattle.journal_spec.specs.Refusals.{room_refusal, first_of}
use Rattle.journal_spec.specs.Record.{Record, Last, last_of, record_bytes}
use Rattle.journal_spec.specs.Scan.{max_length, Placed, records_of, standing}
use Rattle.journal_spec.specs.Request.{Journal, Budget, Request, Offer, offer_of, allowed, declined}
use Rattle.journal_spec.specs.Append.{limits_of, offered, judge_room, of_handed, judge_index, judge_index_room}
use Rattle.journal_spec.specs.Append.{next_index, append_refusals, written, unchanged, extend, put_index, settle}
use Rattle.journal_spec.specs.Append.{append_to}
use Rattle.journal_spec.specs.Index.{IndexEntry, index_of}
use Rattle.journal_spec.proofs.Judging.{unless_true, unless_false}
use Rattle.journal_spec.proofs.Writing.{written_lent}
use Rattle.journal.specs.declared.AppendError.TheVariants as A
use Rattle.journal.specs.Stepped.{Filled}
use Rattle.journal.specs.Told.{Judged}
use Rattle.journal.specs.Handed.{offer_from, record_from, offer_refusals}
use Rattle.journal.specs.Answers.{append_meaning, length_after, outcome_with, outcome_of}
use Rattle.journal.proofs.Checking.{first_alone, first_front, first_back}

-- ---- declined

settled_refused : (n : ℕ) (r : Refusal) (j : Journal) (committed : ℕ) (new : List ℕ) → 0 < number_of r → number_of r ≡ n
    → outcome_of j.len (Err (A.Declined r)) j.slice ≡ settle n j none committed new none
unfolding outcome_with append_meaning length_after settle unchanged
settled_refused n r j committed new some e = go (number_of r) some e
  where
    go : (m : ℕ) → 0 < m → m ≡ n → unchanged (declined m) j none ≡ settle n j none committed new none
    go zero h e = absurd (omega arith)
    go (suc m) h e = rw (← e) refl

-- what the test of the room says where it found some
pub room_fits : (room : Bool) (end most : ℕ) → room ≡ leb end most → not room ≡ false → end ≤ most
room_fits room end most e h = leb-true end most (sym e ∙ not-false room h)

-- by the room: `size` is what the code took for the record's length
pub room_declined : (j : Journal) (committed size n : ℕ) (part : List ℕ) → size ≡ n
    → (room : Bool) → room ≡ leb (committed + size) (min (length j.slice) max_length) → not room ≡ true
    → outcome_of j.len (Err (A.Declined R.Room)) j.slice ≡ settle (judge_room (length j.slice) committed n) j none committed part none
unfolding judge_room
room_declined j committed size n part s room e h =
    settled_refused _ R.Room j committed part (omega arith)
    (sym (unless_false (leb (committed + n) (min (length j.slice) max_length)) room_refusal (rw s at (sym e ∙ not-true room h))))

-- ---- written

take_least : (k : ℕ) (new : List ℕ) → take (min k (length new)) new ≡ take k new
take_least k new =
    by_order k (length new)
    (λ h. let e : min k (length new) ≡ k = omega arith in ap (λ (n : ℕ). take n new) e)
    (λ h. let e : min k (length new) ≡ length new = omega arith in
    ap (λ (n : ℕ). take n new) e ∙ take_all (length new) new (omega arith) ∙ sym (take_all k new (omega arith)))

settled_none : (n : ℕ) (j : Journal) (after : List ℕ) (committed end : ℕ) (new : List ℕ) → n ≡ 0
    → after ≡ written j.slice committed new → end ≡ committed + length new
    → outcome_of j.len (Ok end) after ≡ settle n j none committed new none
unfolding outcome_with append_meaning length_after settle extend
settled_none n j after committed end new z a e = rw (z, a, e) refl

-- the writer was lent the slice from the committed length on
module _ (j : Journal) (committed size : ℕ) (new : List ℕ) (s : size ≡ length new) where
  pub room_extended : (room : Bool) → room ≡ leb (committed + size) (min (length j.slice) max_length) → not room ≡ false
      → (b : Budget) (end r : ℕ) (ys : List ℕ) → end ≡ min (allowed b size) size → r ≡ end
      → Filled new (take (length j.slice - committed) (drop committed j.slice)) 0 r ys
      → outcome_of j.len (Ok (committed + r))
      (take committed j.slice ++ (ys ++ drop (length j.slice - committed) (drop committed j.slice)))
      ≡ settle (judge_room (length j.slice) committed (length new)) j none committed (take (allowed b (length new)) new) none
  unfolding judge_room
  room_extended room e h b end r ys l t f =
      let k : ℕ = allowed b (length new) in
      let part : List ℕ = take (length j.slice - committed) (drop committed j.slice) in
      let n : r - 0 ≡ min k (length new) = rw (t, l, s) (omega arith) in
      let first : take (r - 0) new ≡ take k new = ap (λ (m : ℕ). take m new) n ∙ take_least k new in
      let inside : committed ≤ length j.slice = omega (arith, room_fits room (committed + size) (min (length j.slice) max_length) e h) in
      settled_none _ j _ committed (committed + r) (take k new)
      (unless_true (leb (committed + length new) (min (length j.slice) max_length)) room_refusal (rw s at (sym e ∙ not-false room h)))
      (written_lent j.slice committed (take k new) ys inside (f.bytes ∙ ap (written part 0) first))
      (rw length-take (omega (arith, n)))

-- ---- the offer's record is the one with the limits worked out

pub offered_record : (day : ℕ) (name chances times limits : List ℕ) → limits ≡ limits_of times chances
    → record_from day name chances times limits ≡ offered (offer_from day name chances times)
unfolding record_from offered offer_from
offered_record day name chances times limits e = rw e refl

-- ---- append to what stands

pub first_trailing : (ns : List ℕ) → first_of (ns ++ 0 ∷ 0 ∷ []) ≡ first_of ns
unfolding first_of
first_trailing [] = refl
first_trailing (zero ∷ ns) = first_trailing ns
first_trailing (suc n ∷ ns) = refl

pub either_none : (b : Bool) → cond {A = Option (List ℕ)} b none none ≡ none
either_none true = refl
either_none false = refl

-- of a request without an index
module _ (last : Last) (committed : ℕ) (q : Request) (without : q.index ≡ none) (j : Journal) (ps : List Placed) (is : last ≡ last_of (records_of ps)) where
  abbrev o : Offer
  o = offer_of q

  -- the rows of append's refusals: those of the offer, then the room
  abbrev rows : Last → List ℕ
  rows l = offer_refusals q.rule l o ++ judge_room (length j.slice) committed (length (record_bytes (offered o))) ∷ []

  none_handed : (refusal : List ℕ → ℕ) → of_handed refusal q.index ≡ 0
  unfolding of_handed
  none_handed refusal = ap (of_handed refusal) without

  refusals : first_of (append_refusals (length j.slice) ps committed q) ≡ first_of (rows last)
  unfolding append_refusals offer_refusals
  refusals =
      ap₂ (λ (x y : ℕ). first_of (rows (last_of (records_of ps)) ++ x ∷ y ∷ [])) (none_handed (judge_index (index_of ps)))
      (none_handed (judge_index_room (next_index ps committed o)))
      ∙ first_trailing (rows (last_of (records_of ps)))
      ∙ ap (λ (l : Last). first_of (rows l)) (sym is)

  -- what becomes of it by its refusal
  abbrev bytes : List ℕ
  bytes = record_bytes (offered o)

  settles : (n : ℕ) → first_of (append_refusals (length j.slice) ps committed q) ≡ n
      → settle n j none committed (take (allowed q.budget (length bytes)) bytes) none ≡ append_to (standing ps committed) j q
  unfolding append_to put_index
  settles n e =
      let es : List IndexEntry = next_index ps committed o in
      let k : ℕ = allowed q.budget (length bytes) in
      ap (settle n j none committed (take k bytes)) (sym (either_none (leb (length bytes) k)))
      ∙ ap (λ (i : Option (List ℕ)). settle n j i committed (take k bytes) (cond (leb (length bytes) k) (put_index es i) i)) (sym without)
      ∙ ap (λ (m : ℕ). settle m j q.index committed (take k bytes) (cond (leb (length bytes) k) (put_index es q.index) q.index)) (sym e)

  -- declined by the check that needs no room
  pub offer_declined : (r : Refusal) → Judged {A = Unit {0}} (Err r) (first_of (offer_refusals q.rule last o))
      → outcome_of j.len (Err (A.Declined r)) j.slice ≡ append_to (standing ps committed) j q
  offer_declined r judged =
      let some : 0 < number_of r = omega (arith, judged.0, judged.1) in
      settled_refused _ r j committed _ some (first_front (number_of r) (offer_refusals q.rule last o) _ some judged.0 ∙ sym refusals) ∙ settles _ refl

  -- else the room decides
  pub offer_settled : (r : Record) → first_of (offer_refusals q.rule last o) ≡ 0 → r ≡ offered o
      → settle (judge_room (length j.slice) committed (length (record_bytes r))) j none committed
      (take (allowed q.budget (length (record_bytes r))) (record_bytes r)) none
      ≡ append_to (standing ps committed) j q
  offer_settled r z e =
      ap (λ (x : Record).
      settle (judge_room (length j.slice) committed (length (record_bytes x))) j none committed
      (take (allowed q.budget (length (record_bytes x))) (record_bytes x)) none)
      e
      ∙ settles _ (refusals ∙ first_back (offer_refusals q.rule last o) _ z ∙ first_alone _)
