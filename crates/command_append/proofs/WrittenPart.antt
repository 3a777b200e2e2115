-- The part that an append writes is the offered record whole, from the committed length on, and it can be lent.
-- Where nothing is written it is empty, and the slice is as before. Assumes nothing.
use Rattle.std.proofs.Common.{◌≡◌, ℕ, zero, suc, ◌+◌, ◌-◌, ◌*◌, ◌≤◌, min, leb, Result, Ok, Err, List, [], length, take, sym, refl, ap, ◌∙◌, arith, take_all, leb-true}
use mathlib.Core.Option.{Option}
use lib.ListN.{length-map}
use Rattle.journal_spec.specs.Refusals.{first_of}
use Rattle.journal_spec.specs.Record.{record_bytes}
use Rattle.journal_spec.specs.Profile.{Rule}
use Rattle.journal_spec.specs.Scan.{max_length, Placed, Contents, standing, faulty, contents_of, ScanResult, status_of, scan_of}
use Rattle.journal_spec.specs.Request.{Journal, Offer, gather_by, times_of, gathered_times, offer_of, allowed, AppendResult, extended, declined, declined_at}
use Rattle.journal_spec.specs.Request.{damaged, Outcome}
use Rattle.journal_spec.specs.Append.{limits_of, offered, judge_room, append_refusals, written, unchanged, extend, settle, append_to, append_with, append_of}
use Rattle.journal_spec.proofs.Judging.{none_at_lem, unless_none}
use Rattle.journal_spec.proofs.Records.{length_record}
use Rattle.journal_spec.proofs.Writing.{written_nil}
use Rattle.journal_spec.proofs.Placing.{written_part}
use Rattle.journal.specs.Answers.{append_meaning, outcome_with}
use Rattle.journal.specs.declared.AppendError.{AppendError}
use Rattle.journal.specs.declared.AppendError.TheVariants as A
use Rattle.command_append.specs.Extension.{committed_in, start_in, end_in, part_in, all_of, append_all, Extends}
use Rattle.command_append.proofs.Committed.{committed_inside, committed_found}

-- ---- an append that extends the journal

-- the length of the offered record, as the code takes it
pub offered_length : (o : Offer) → length (record_bytes (offered o))
    ≡ 12 + length o.name + 4 * length o.chances + 4 * length o.times + 8 * length o.chances
unfolding offered limits_of
offered_length o = length_record (offered o) ∙ rw length-map refl

-- it answers n: the record ends there, inside the slice and the longest journal, and is written from the committed length on
pub record Extended (slice : List ℕ) (len : ℕ) (rule : Rule) (o : Offer) (n : ℕ) (after : List ℕ) : Type 0 where
  pub kept : committed_in (scan_of rule slice len) ≤ len
  pub place : n ≡ committed_in (scan_of rule slice len) + length (record_bytes (offered o))
  pub room : n ≤ min (length slice) max_length
  pub bytes : after ≡ written slice (committed_in (scan_of rule slice len)) (record_bytes (offered o))

-- an offer that nothing refuses has room
room_found : (room : ℕ) (ps : List Placed) (c : ℕ) (rule : Rule) (o : Offer) (i : Option (List ℕ)) → first_of (append_refusals room ps c (all_of rule o i)) ≡ 0
    → c + length (record_bytes (offered o)) ≤ min room max_length
unfolding append_refusals judge_room offer_of times_of gather_by gathered_times
room_found room ps c rule o i h =
    leb-true _ _ (unless_none (leb (c + length (record_bytes (offered o))) (min room max_length)) 8 (none_at_lem _ h 6))

-- an offer that is taken was not refused
record Taken (refusal : ℕ) (slice : List ℕ) (c : ℕ) (new : List ℕ) (n : ℕ) (after : List ℕ) : Type 0 where
  none : refusal ≡ 0
  place : n ≡ c + length new
  bytes : after ≡ written slice c new

taken : (refusal : ℕ) (j : Journal) (i next : Option (List ℕ)) (c : ℕ) (new : List ℕ) (n : ℕ) → (settle refusal j i c new next).answer ≡ extended n
    → Taken refusal j.slice c new n (settle refusal j i c new next).journal.slice
unfolding settle extend unchanged
taken zero j i next c new n e = record { none = refl; place = cc; bytes = refl }
taken (suc refusal) j i next c new n e = let z : ◌≡◌ {A = ℕ} 0 1 = cc in absurd (omega arith)

pub append_extended : (slice : List ℕ) (len : ℕ) (rule : Rule) (o : Offer) (i : Option (List ℕ)) (n : ℕ) → (append_all slice len rule o i).answer ≡ extended n
    → Extended slice len rule o n (append_all slice len rule o i).journal.slice
unfolding append_of append_with times_of gather_by gathered_times offer_of append_to allowed unchanged scan_of
append_extended slice len rule o i n = go (contents_of rule slice len) refl
  where
    bytes : List ℕ
    bytes = record_bytes (offered o)

    go : (x : Contents) → contents_of rule slice len ≡ x → (append_to x (record { slice = slice; len = len }) (all_of rule o i)).answer ≡ extended n
        → Extended slice len rule o n (append_to x (record { slice = slice; len = len }) (all_of rule o i)).journal.slice
    go (faulty m p) h e = let z : ◌≡◌ {A = ℕ} 0 1 = cc in absurd (omega arith)
    go (standing ps c) h e =
        let t = taken (first_of (append_refusals (length slice) ps c (all_of rule o i))) (record { slice = slice; len = len }) i _ c
        (take (length bytes) bytes) n e in
        let all : take (length bytes) bytes ≡ bytes = take_all (length bytes) bytes (omega arith) in
        let found : committed_in (status_of len (contents_of rule slice len)) ≡ c = rw h (committed_found len ps c) in
        let ends : n ≡ c + length bytes = t.place ∙ rw all refl in
        record {
          kept = omega (arith, found, committed_inside rule slice len ps c h);
          place = omega (arith, found, ends);
          room = omega (arith, ends, room_found (length slice) ps c rule o i t.none);
          bytes = t.bytes ∙ rw (all, found) refl;
        }

-- ---- an append that writes nothing

-- the answer is no new length
abbrev pub Unwritten : AppendResult → Type 0
Unwritten a = (n : ℕ) → a ≡ extended n → ⊥

settled_unwritten : (refusal : ℕ) (j : Journal) (i next : Option (List ℕ)) (c : ℕ) (new : List ℕ) → Unwritten (settle refusal j i c new next).answer
    → (settle refusal j i c new next).journal.slice ≡ j.slice
unfolding settle extend unchanged
settled_unwritten zero j i next c new u = absurd (u _ refl)
settled_unwritten (suc refusal) j i next c new u = refl

pub append_unwritten : (slice : List ℕ) (len : ℕ) (rule : Rule) (o : Offer) (i : Option (List ℕ)) → Unwritten (append_all slice len rule o i).answer
    → (append_all slice len rule o i).journal.slice ≡ slice
unfolding append_of append_with times_of gather_by gathered_times offer_of append_to unchanged
append_unwritten slice len rule o i = go (contents_of rule slice len)
  where
    go : (x : Contents) → Unwritten (append_to x (record { slice = slice; len = len }) (all_of rule o i)).answer
        → (append_to x (record { slice = slice; len = len }) (all_of rule o i)).journal.slice ≡ slice
    go (faulty n p) u = refl
    go (standing ps c) u = settled_unwritten _ _ _ _ c _ u

pub error_unwritten : (error : AppendError) → Unwritten (append_meaning (Err error))
unfolding append_meaning
error_unwritten (A.Declined r) n e = cc
error_unwritten (A.DeclinedAt f) n e = cc
error_unwritten (A.Damaged f) n e = cc

-- the part is empty, at 0
pub record Empty (s : ScanResult) (o : Offer) (a : AppendResult) : Type 0 where
  pub starts : start_in s a ≡ 0
  pub ends : end_in a ≡ 0
  pub part : part_in o a ≡ []

pub empty : (s : ScanResult) (o : Offer) (a : AppendResult) → Unwritten a → Empty s o a
unfolding start_in end_in part_in
empty s o (extended n) u = absurd (u n refl)
empty s o (declined n) u = record { starts = refl; ends = refl; part = refl }
empty s o (declined_at n p) u = record { starts = refl; ends = refl; part = refl }
empty s o (damaged n p) u = record { starts = refl; ends = refl; part = refl }

-- ---- what the code answers

-- the part can be lent
abbrev pub Lendable : ℕ → ℕ → List ℕ → Type 0
Lendable start end after = (start ≤ end) × (end ≤ length after) × (start ≤ max_length)

module _ (slice : List ℕ) (len : ℕ) (rule : Rule) (o : Offer) (i : Option (List ℕ)) (answer : Result ℕ AppendError) (after : List ℕ)
    (k : Option (List ℕ)) (e : outcome_with len answer after k ≡ append_all slice len rule o i) where
  said : append_meaning answer ≡ (append_all slice len rule o i).answer
  unfolding outcome_with
  said = ap (λ (x : Outcome). x.answer) e

  left : after ≡ (append_all slice len rule o i).journal.slice
  unfolding outcome_with
  left = ap (λ (x : Outcome). x.journal.slice) e

  pub extended_said : (n : ℕ) → answer ≡ Ok n → Extended slice len rule o n after
  unfolding append_meaning
  extended_said n h = rw left (append_extended slice len rule o i n (sym said ∙ rw h refl))

  -- the record is as long as the code takes it, so that it starts that long before its end
  pub extends_record : (n start : ℕ) → answer ≡ Ok n → start ≡ n - (12 + length o.name + 12 * length o.chances + 4 * length o.times)
      → length after ≡ length slice
      → Extends slice len rule o i (Ok (record { start = start; end = n })) after k × Lendable start n after
  unfolding start_in end_in part_in append_meaning
  extends_record n start h s same =
      let x = extended_said n h in
      let told : (append_all slice len rule o i).answer ≡ extended n = sym said ∙ rw h refl in
      let size = offered_length o in
      let c : start ≡ committed_in (scan_of rule slice len) = omega (arith, x.place, size, s) in
      let span : n - start ≡ length (record_bytes (offered o)) = omega (arith, x.place, c) in
      let fits : committed_in (scan_of rule slice len) + length (record_bytes (offered o)) ≤ length slice = omega (arith, x.place, x.room) in (
        record {
          outcome = rw h at e;
          starts = rw told c;
          ends = rw told refl;
          part = rw (told, span, c, x.bytes) (written_part slice _ (record_bytes (offered o)) fits);
          rest = rw (told, c) x.bytes;
        },
        (omega (arith, x.place, c), omega (arith, x.room, same), omega (arith, x.room, x.place, c)),
      )

  pub extends_nothing : (error : AppendError) → answer ≡ Err error → Extends slice len rule o i (Err error) after k
  extends_nothing error h =
      let u : Unwritten (append_meaning answer) = rw h (error_unwritten error) in
      let none = empty (scan_of rule slice len) o (append_all slice len rule o i).answer (rw said at u) in
      record {
        outcome = rw h at e;
        starts = sym none.starts;
        ends = sym none.ends;
        part = sym none.part;
        rest = rw none.part (left ∙ append_unwritten slice len rule o i (rw said at u) ∙ sym (written_nil slice 0));
      }
