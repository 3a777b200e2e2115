-- For code that goes over a journal's records: the loop of scan, and what one record more is to reading's answers.
-- Assumes nothing.
use mathlib.Core.Path.{◌≡◌, refl, sym, ap, ◌∙◌}
use Prim.Native.Nat.{ℕ, zero, suc, ◌+◌, ◌-◌, ◌≤◌, ◌<◌}
use mathlib.Core.List.{List, [], ◌∷◌, ◌++◌}
use native.Mathlib.Omega.{arith}
use lib.ListN.{length, take, drop, length-drop, length-append}
use lib.Seq.{drop-drop, length-take-le}
use Rattle.journal_spec.specs.Refusals.{absent_refusal}
use Rattle.journal_spec.specs.Reader.{Found, found, fault, short, run}
use Rattle.journal_spec.specs.Record.{Record, Last, last_of, judge_form, record_reader}
use Rattle.journal_spec.specs.Scan.{max_length, Placed, records_of, standing, faulty, record_at, contents_from, contents_of}
use Rattle.journal_spec.specs.Profile.{Rule}
use Rattle.journal_spec.specs.Read.{no_part, part_at, unmarked, mark_at}
use Rattle.journal_spec.proofs.Reading.{field_short, field_found, run_left}
use Rattle.journal_spec.proofs.Scanning.{last_of_snoc, records_of_snoc, at_short, found_at, turn_short, turn_fault, turn_found, contents_fits}

-- a record takes at least its first field
pub record_takes : (last : Last) (at : ℕ) (bs : List ℕ) (r : Record) (e : ℕ) (rest : List ℕ)
    → run (record_reader last) at bs ≡ found r e rest → at + 2 ≤ e
unfolding record_reader
record_takes last at bs r e rest h =
    let f = field_found 2 (judge_form last) _ at bs r e rest h in
    (run_left _ (at + 2) (drop 2 bs) r e rest f.goes).later

none_short : (last : Last) (at : ℕ) (b : List ℕ) → length b ≤ at → run (record_reader last) at (drop at b) ≡ short
unfolding record_reader
none_short last at b h = field_short 2 _ _ at (drop at b) (rw length-drop (omega arith))

-- ---- the loop

-- the records of ps stand before the place `at` of the bytes b; what all of b holds is what the rest adds to them
pub record Going (rule : Rule) (b : List ℕ) (ps : List Placed) (at : ℕ) : Type 0 where
  pub more : ℕ
  pub inside : at ≤ length b
  pub enough : length b ≤ at + more
  pub few : length ps ≤ at
  pub same : contents_from rule (length b) [] 0 b ≡ contents_from rule more ps at (drop at b)

pub going_start : (rule : Rule) (b : List ℕ) → Going rule b [] 0
going_start rule b = record { more = length b; inside = omega arith; enough = omega arith; few = omega arith; same = refl }

module _ (rule : Rule) (b : List ℕ) (ps : List Placed) (at : ℕ) (g : Going rule b ps at) where
  -- where a record or a fault is found there are bytes left
  left : (f : Found Record) → record_at rule (last_of (records_of ps)) at (drop at b) ≡ f → (f ≡ short → ⊥) → 0 < g.more
  left f h differs = go g.more refl
    where
      go : (n : ℕ) → g.more ≡ n → 0 < g.more
      go zero e =
          absurd (differs (sym h ∙ at_short rule (last_of (records_of ps)) at (drop at b) (none_short (last_of (records_of ps)) at b (omega (arith, g.enough)))))
      go (suc n) e = omega arith

  pub going_short : record_at rule (last_of (records_of ps)) at (drop at b) ≡ short → contents_from rule (length b) [] 0 b ≡ standing ps at
  going_short h = g.same ∙ turn_short rule g.more ps at (drop at b) h

  pub going_fault : (n p : ℕ) → record_at rule (last_of (records_of ps)) at (drop at b) ≡ fault n p → contents_from rule (length b) [] 0 b ≡ faulty n p
  going_fault n p h =
      g.same ∙ turn_fault rule g.more ps at (drop at b) n p h (left (fault n p) h (λ x. let z : ◌≡◌ {A = ℕ} 0 1 = cc in omega arith))

  -- a record more
  pub record Further (r : Record) (e : ℕ) (rest : List ℕ) : Type 0 where
    pub later : at < e
    pub there : e ≤ length b
    pub drops : rest ≡ drop e b
    pub going : Going rule b (ps ++ record { content = r; start = at; size = e - at } ∷ []) e

  pub going_found : (r : Record) (e : ℕ) (rest : List ℕ) → record_at rule (last_of (records_of ps)) at (drop at b) ≡ found r e rest → Further r e rest
  going_found r e rest h =
      let read = (found_at rule (last_of (records_of ps)) at (drop at b) r e rest h).0 in
      let t = record_takes (last_of (records_of ps)) at (drop at b) r e rest read in
      let l = run_left (record_reader (last_of (records_of ps))) at (drop at b) r e rest read in
      let n : e - at ≤ length b - at = rw length-drop at l.there in
      let s : at + (e - at) ≡ e = omega (arith, t) in
      let d : rest ≡ drop e b = l.same ∙ drop-drop (e - at) at b ∙ ap (λ (k : ℕ). drop k b) s in
      let pos = left (found r e rest) h (λ x. let z : ◌≡◌ {A = ℕ} 0 1 = cc in omega arith) in
      let p : Placed = record { content = r; start = at; size = e - at } in
      record {
        later = omega (arith, t);
        there = omega (arith, t, n, g.inside);
        drops = d;
        going = record {
          more = g.more - 1;
          inside = omega (arith, t, n, g.inside);
          enough = omega (arith, t, pos, g.enough);
          few = rw length-append (omega (arith, t, g.few));
          same = g.same ∙ turn_found rule g.more ps at (drop at b) r e rest h pos ∙ ap (contents_from rule (g.more - 1) (ps ++ p ∷ []) e) d;
        };
      }

-- a journal in a slice is what its part up to the length holds
pub contents_part : (rule : Rule) (slice : List ℕ) (len : ℕ) → len ≤ length slice → len ≤ max_length
    → contents_of rule slice len ≡ contents_from rule (length (take len slice)) [] 0 (take len slice)
contents_part rule slice len h k =
    contents_fits rule slice len h k ∙ ap (λ (n : ℕ). contents_from rule n [] 0 (take len slice)) (sym (length-take-le len slice h))

-- ---- one record more

-- what the next record's reader knows of it
pub last_placed : (ps : List Placed) (p : Placed) → last_of (records_of (ps ++ p ∷ [])) ≡ record { form = p.content.form; day = p.content.day }
last_placed ps p = ap last_of (records_of_snoc ps p) ∙ last_of_snoc (records_of ps) p.content

-- reading's answers for an i below the number of records, at it, and beyond it
pub part_before : (ps qs : List Placed) (i : ℕ) → i < length ps → part_at (ps ++ qs) i ≡ part_at ps i
unfolding part_at
part_before [] qs i h = absurd (omega arith)
part_before (p ∷ ps) qs zero h = refl
part_before (p ∷ ps) qs (suc i) h = part_before ps qs i (omega arith)

pub part_this : (ps : List Placed) (p : Placed) (i : ℕ) → i ≡ length ps → part_at (ps ++ p ∷ []) i ≡ record { start = p.start; size = p.size }
unfolding part_at
part_this [] p zero h = refl
part_this [] p (suc i) h = absurd (omega arith)
part_this (q ∷ ps) p zero h = absurd (omega arith)
part_this (q ∷ ps) p (suc i) h = part_this ps p i (omega arith)

pub part_beyond : (ps : List Placed) (i : ℕ) → length ps ≤ i → part_at ps i ≡ no_part
unfolding part_at
part_beyond [] i h = refl
part_beyond (p ∷ ps) zero h = absurd (omega arith)
part_beyond (p ∷ ps) (suc i) h = part_beyond ps i (omega arith)

pub mark_beyond : (ps : List Placed) (i : ℕ) → length ps ≤ i → mark_at ps i ≡ unmarked absent_refusal
unfolding mark_at
mark_beyond [] i h = refl
mark_beyond (p ∷ ps) zero h = absurd (omega arith)
mark_beyond (p ∷ ps) (suc i) h = mark_beyond ps i (omega arith)
