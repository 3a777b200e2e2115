-- The public functions' answers by what the pass over the journal answered.
-- Assumes nothing.
use mathlib.Core.Path.{◌≡◌, refl, sym, ap, ◌∙◌}
use Prim.Native.Nat.{ℕ, zero, suc, ◌≤◌, ◌<◌, min}
use mathlib.Core.List.{List, [], ◌∷◌}
use mathlib.Core.Option.{none}
use native.Mathlib.Omega.{arith}
use Rattle.std.specs.Prelude.{Option, Some, None, Result, Ok, Err}
use Rattle.refusals.specs.Refusals.{number_of}
use lib.ListN.{length, take}
use borrow.Author.Tests.{eq-eqb, ne_eqb}
use Rattle.journal_spec.specs.Refusals.{length_refusal, absent_refusal}
use Rattle.journal_spec.specs.Record.{Last, last_of}
use Rattle.journal_spec.specs.Profile.{Rule}
use Rattle.journal_spec.specs.Scan.{max_length, Placed, records_of, standing, faulty, contents_of, whole, torn, damaged, status_of}
use Rattle.journal_spec.specs.Scan as Scan
use Rattle.journal_spec.specs.Read.{MarkResult, no_part, part_at, part_of, part_place, marked, unmarked, mark_from, mark_of, mark_at, mark_in, read_mark}
use Rattle.journal_spec.specs.Log.{gathered}
use Rattle.journal_spec.specs.Request.{Request, times_of, Outcome}
use Rattle.journal_spec.specs.Append.{unchanged, append_to, append_of}
use Rattle.journal_spec.proofs.Scanning.{contents_long}
use Rattle.journal_spec.proofs.Logs.{append_read}
use Rattle.journal_spec.proofs.RecordsLoop.{contents_part}
use Rattle.journal.specs.declared.Fault.{Fault}
use Rattle.journal.specs.declared.Part.{Part}
use Rattle.journal.specs.declared.contents.Shown.{Shown}
use Rattle.journal.specs.declared.contents.Contents.{Contents}
use Rattle.journal.specs.declared.AppendError.TheVariants as A
use Rattle.journal.specs.Told.{Numbered, numbered, by_number}
use Rattle.journal.specs.Records.{as_last}
use Rattle.journal.specs.Contents.{head_of, shown_of, shown_at, contents_read, records_read, status_read, place_at, place_read}
use Rattle.journal.specs.Answers.{part_meaning, place_meaning, append_meaning, length_after, outcome_with, outcome_of}

-- ---- the length

pub contents_beyond : (rule : Rule) (v : List ℕ) (len i : ℕ) → min (length v) max_length < len
    → Err (record { number = length_refusal; place = 0 }) ≡ contents_read i (contents_of rule v len)
unfolding contents_read
contents_beyond rule v len i h = rw (contents_long rule v len h)

pub contents_within : (rule : Rule) (v : List ℕ) (len i : ℕ) → len ≤ length v → len ≤ max_length
    → records_read i rule (take len v) ≡ contents_read i (contents_of rule v len)
unfolding records_read
contents_within rule v len i h k = ap (contents_read i) (sym (contents_part rule v len h k))

-- ---- the answer, taken back

pub record Stood (k : Scan.Contents) (i : ℕ) (c : Contents) : Type 0 where
  pub ps : List Placed
  pub count : c.records ≡ length ps
  pub ends : c.last ≡ head_of (last_of (records_of ps))
  pub seen : c.shown ≡ shown_at ps i
  pub is : k ≡ standing ps c.committed

stands_stood : (k : Scan.Contents) (i : ℕ) (c : Contents) → Ok c ≡ contents_read i k → Stood k i c
unfolding contents_read
stands_stood (standing ps e) i c h =
    let same : c ≡ record { records = length ps; committed = e; last = head_of (last_of (records_of ps)); shown = shown_at ps i } = cc in
    record {
      ps = ps;
      count = ap (λ (x : Contents). x.records) same;
      ends = ap (λ (x : Contents). x.last) same;
      seen = ap (λ (x : Contents). x.shown) same;
      is = ap (λ (x : Contents). standing ps x.committed) (sym same);
    }
stands_stood (faulty n p) i c h = let z : ◌≡◌ {A = ℕ} 0 1 = cc in absurd (omega arith)

damaged_faulty : (k : Scan.Contents) (i : ℕ) (f : Numbered) → Err f ≡ contents_read i k → k ≡ faulty f.number f.place
unfolding contents_read
damaged_faulty (standing ps e) i f h = let z : ◌≡◌ {A = ℕ} 0 1 = cc in absurd (omega arith)
damaged_faulty (faulty n p) i f h =
    let e : record { number = n; place = p } ≡ f = cc in ap (λ (y : Numbered). faulty y.number y.place) e

-- ---- the parts and marks that are shown

place_shown : Option Shown → Option Part
place_shown (Some s) = Some (record { start = s.start; size = s.size })
place_shown None = None

shown_place : (ps : List Placed) (i : ℕ) → place_shown (shown_at ps i) ≡ place_at ps i
unfolding place_shown shown_at place_at shown_of
shown_place [] i = refl
shown_place (p ∷ ps) zero = refl
shown_place (p ∷ ps) (suc i) = shown_place ps i

placed_part : (ps : List Placed) (i : ℕ) → place_meaning (place_at ps i) ≡ part_at ps i
unfolding place_meaning part_meaning place_at part_at no_part
placed_part [] i = refl
placed_part (p ∷ ps) zero = refl
placed_part (p ∷ ps) (suc i) = placed_part ps i

-- what is answered of the place says where the part stands
pub place_part : (rule : Rule) (v : List ℕ) (len i : ℕ) (p : Option Part)
    → p ≡ place_read i (contents_of rule v len) → place_meaning p ≡ part_place rule v len i
unfolding part_place place_read part_of place_meaning
place_part rule v len i p e = ap place_meaning e ∙ go (contents_of rule v len)
  where
    go : (k : Scan.Contents) → place_meaning (place_read i k) ≡ part_of k i
    go (standing ps committed) = placed_part ps i
    go (faulty n p) = refl

mark_shown : Option Shown → MarkResult
mark_shown (Some s) = marked (mark_from s.flat s.times)
mark_shown None = unmarked absent_refusal

shown_mark : (ps : List Placed) (i : ℕ) → mark_shown (shown_at ps i) ≡ mark_at ps i
unfolding mark_shown shown_at mark_at shown_of mark_from mark_of
shown_mark [] i = refl
shown_mark (p ∷ ps) zero = refl
shown_mark (p ∷ ps) (suc i) = shown_mark ps i

-- ---- the answers

-- scan's answer, by what the pass answered
module _ (len : ℕ) (c : Contents) (x : Result Contents Numbered) (told : x ≡ Ok c) where
  pub status_whole : c.committed ≡ len → whole c.records c.committed ≡ status_read len x
  unfolding status_read
  status_whole h = rw told (rw (eq-eqb c.committed len h) refl)

  pub status_torn : (c.committed ≡ len → ⊥) → torn c.records c.committed ≡ status_read len x
  unfolding status_read
  status_torn h = rw told (rw (ne_eqb c.committed len h) refl)

pub status_damaged : (len : ℕ) (f : Numbered) (x : Result Contents Numbered) → x ≡ Err f → damaged f.number f.place ≡ status_read len x
unfolding status_read
status_damaged len f x told = rw told refl

-- and by what the journal holds
pub status_read_lem : (len i : ℕ) (k : Scan.Contents) → status_read len (contents_read i k) ≡ status_of len k
unfolding status_read contents_read status_of
status_read_lem len i (standing ps committed) = refl
status_read_lem len i (faulty n p) = refl

pub last_kept : (l : Last) → as_last (head_of l) ≡ l
unfolding as_last head_of
last_kept l = refl

module _ (rule : Rule) (v : List ℕ) (len i : ℕ) (x : Result Contents Fault) (read : by_number x ≡ contents_read i (contents_of rule v len)) where
  module _ (c : Contents) (told : x ≡ Ok c) where
    pub stood : Stood (contents_of rule v len) i c
    stood = stands_stood (contents_of rule v len) i c (sym (ap by_number told) ∙ read)

    -- what is asked of record i
    place_stands : place_shown c.shown ≡ place_read i (contents_of rule v len)
    unfolding place_read
    place_stands = ap place_shown stood.seen ∙ shown_place stood.ps i ∙ ap (place_read i) (sym stood.is)

    mark_stands : mark_shown c.shown ≡ read_mark rule v len i
    unfolding read_mark mark_in
    mark_stands = ap mark_shown stood.seen ∙ shown_mark stood.ps i ∙ ap (λ k. mark_in k i) (sym stood.is)

    -- there is one
    module _ (s : Shown) (here : c.shown ≡ Some s) where
      pub place_there : Some (record { start = s.start; size = s.size }) ≡ place_read i (contents_of rule v len)
      unfolding place_shown
      place_there = sym (ap place_shown here) ∙ place_stands

      pub mark_there : marked (mark_from s.flat s.times) ≡ read_mark rule v len i
      unfolding mark_shown
      mark_there = sym (ap mark_shown here) ∙ mark_stands

    -- there is none
    module _ (here : c.shown ≡ None) where
      pub place_absent : None ≡ place_read i (contents_of rule v len)
      unfolding place_shown
      place_absent = sym (ap place_shown here) ∙ place_stands

      pub mark_absent : unmarked absent_refusal ≡ read_mark rule v len i
      unfolding mark_shown
      mark_absent = sym (ap mark_shown here) ∙ mark_stands

    -- what becomes of a request whose times are read goes on from what stands
    pub append_stands : (q : Request) (ts : List ℕ) → q.rule ≡ rule → times_of q ≡ gathered ts → (out : Outcome)
        → ((ps : List Placed) → as_last c.last ≡ last_of (records_of ps)
        → out ≡ append_to (standing ps c.committed) (record { slice = v; len = len }) q)
        → out ≡ append_of (record { slice = v; len = len }) q
    append_stands q ts by e out h =
        h stood.ps (ap as_last stood.ends ∙ last_kept (last_of (records_of stood.ps)))
        ∙ ap (λ k. append_to k (record { slice = v; len = len }) q) (sym (rw by stood.is))
        ∙ append_read (record { slice = v; len = len }) q ts e

  module _ (f : Fault) (told : x ≡ Err f) where
    pub faulted : contents_of rule v len ≡ faulty (number_of f.refusal) f.place
    faulted = damaged_faulty (contents_of rule v len) i (numbered f) (sym (ap by_number told) ∙ read)

    pub place_damaged : None ≡ place_read i (contents_of rule v len)
    unfolding place_read
    place_damaged = rw faulted

    pub mark_damaged : unmarked (number_of f.refusal) ≡ read_mark rule v len i
    unfolding read_mark mark_in
    mark_damaged = rw faulted

    pub append_damaged : (q : Request) (ts : List ℕ) → q.rule ≡ rule → q.index ≡ none → times_of q ≡ gathered ts
        → outcome_of len (Err (A.Damaged f)) v ≡ append_of (record { slice = v; len = len }) q
    unfolding append_to outcome_with append_meaning length_after unchanged
    append_damaged q ts by without e = rw (← append_read (record { slice = v; len = len }) q ts e, by, faulted, without)
