-- The part that reading answers lies inside the slice, for every slice, length and i.
-- Each record ends where the next one starts, and the last before the length. Assumes nothing.
use mathlib.Core.Path.{◌≡◌, refl, ap, ◌∙◌}
use Prim.Native.Nat.{ℕ, zero, suc, ◌+◌, ◌-◌, ◌≤◌, min}
use mathlib.Core.List.{List, [], ◌∷◌, ◌++◌}
use native.Mathlib.Omega.{arith}
use Rattle.std.specs.Prelude.{Some, None}
use native.Mathlib.Nat.{add-sub_cancel_left}
use lib.ListN.{length, take, drop, length-take, length-drop, length-append}
use Rattle.facts.proofs.Orders.{by_order}
use Rattle.journal_spec.specs.Reader.{Found, found, fault, short}
use Rattle.journal_spec.specs.Record.{Record, last_of, record_reader}
use Rattle.journal_spec.specs.Profile.{Rule}
use Rattle.journal_spec.specs.Scan.{max_length, Placed, records_of, Contents, standing, faulty, record_at, contents_from, contents_of}
use Rattle.journal_spec.specs.Read.{no_part, part_at, part_of, part_place, part_bytes, read_part}
use Rattle.journal_spec.proofs.Reading.{run_left}
use Rattle.journal_spec.proofs.Scanning.{found_at, turn_short, turn_fault, turn_found, contents_fits, contents_long}
use Rattle.journal_spec.proofs.RecordsLoop.{part_before, part_this, part_beyond}
use Rattle.journal.specs.declared.Part.{Part}
use Rattle.journal.specs.Answers.{part_meaning, place_meaning}

-- each part ends at or before a place
pub record Inside (ps : List Placed) (end : ℕ) : Type 0 where
  pub part : (i : ℕ) → (part_at ps i).start + (part_at ps i).size ≤ end

inside_none : Inside [] 0
unfolding part_at no_part
inside_none = record { part = λ i. omega arith }

inside_more : (ps : List Placed) (p : Placed) (at : ℕ) → Inside ps at → at ≤ p.start + p.size → Inside (ps ++ p ∷ []) (p.start + p.size)
unfolding no_part
inside_more ps p at g h = record {
  part = λ i.
      by_order (suc i) (length ps)
      (λ k. rw (part_before ps (p ∷ []) i (omega arith)) (omega (arith, g.part i)))
      (λ k. by_order i (length ps)
      (λ l. rw (part_this ps p i (omega arith)) (omega arith))
      (λ l. rw (part_beyond (ps ++ p ∷ []) i (rw length-append (omega arith))) (omega arith)));
}

-- the part's end
abbrev end_of : Contents → ℕ → ℕ
end_of k i = (part_of k i).start + (part_of k i).size

standing_inside : (k : Contents) (ps : List Placed) (at end i : ℕ) → k ≡ standing ps at → Inside ps at → at ≤ end → end_of k i ≤ end
unfolding part_of
standing_inside k ps at end i e g h = rw e (omega (arith, g.part i))

faulty_inside : (k : Contents) (n p end i : ℕ) → k ≡ faulty n p → end_of k i ≤ end
unfolding part_of no_part
faulty_inside k n p end i e = rw e (omega arith)

-- one turn: a record more, with what follows it inside, or the end
turn_inside : (rule : Rule) (more : ℕ) (ps : List Placed) (at : ℕ) (bs : List ℕ) (end i : ℕ) → Inside ps at → at + length bs ≤ end
    → ((qs : List Placed) (next : ℕ) (rest : List ℕ) → Inside qs next → next + length rest ≤ end
    → end_of (contents_from rule more qs next rest) i ≤ end)
    → (f : Found Record) → record_at rule (last_of (records_of ps)) at bs ≡ f → end_of (contents_from rule (suc more) ps at bs) i ≤ end
turn_inside rule more ps at bs end i g h again (found r next rest) e =
    let l = run_left (record_reader (last_of (records_of ps))) at bs r next rest (found_at rule (last_of (records_of ps)) at bs r next rest e).0 in
    let p : Placed = record { content = r; start = at; size = next - at } in
    let place : at + (next - at) ≡ next = omega (arith, l.later) in
    let left : length rest ≡ length bs - (next - at) = ap length l.same ∙ length-drop (next - at) bs in
    let n : suc more - 1 ≡ more = omega arith in
    rw (turn_found rule (suc more) ps at bs r next rest e (omega arith), n)
    (again (ps ++ p ∷ []) next rest (rw place at (inside_more ps p at g (omega arith))) (omega (arith, l.later, l.there)))
turn_inside rule more ps at bs end i g h again (fault n p) e = faulty_inside _ n p end i (turn_fault rule (suc more) ps at bs n p e (omega arith))
turn_inside rule more ps at bs end i g h again short e = standing_inside _ ps at end i (turn_short rule (suc more) ps at bs e) g (omega arith)

-- the records of some bytes after others that end where the bytes start
contents_inside : (rule : Rule) (more : ℕ) (ps : List Placed) (at : ℕ) (bs : List ℕ) (end i : ℕ) → Inside ps at → at + length bs ≤ end
    → end_of (contents_from rule more ps at bs) i ≤ end
contents_inside rule zero ps at bs end i g h =
    standing_inside (contents_from rule zero ps at bs) ps at end i (unfold contents_from in refl) g (omega arith)
contents_inside rule (suc more) ps at bs end i g h =
    turn_inside rule more ps at bs end i g h (λ qs next rest. contents_inside rule more qs next rest end i) _ refl

pub part_inside : (rule : Rule) (slice : List ℕ) (len i : ℕ) → (part_place rule slice len i).start + (part_place rule slice len i).size ≤ length slice
unfolding part_place
part_inside rule slice len i =
    by_order len (min (length slice) max_length)
    (λ h. rw (contents_fits rule slice len (omega arith) (omega arith))
    (contents_inside rule len [] 0 (take len slice) (length slice) i inside_none (rw length-take (omega arith))))
    (λ h. faulty_inside (contents_of rule slice len) 1 0 (length slice) i (contents_long rule slice len h))

-- ---- the part as the code holds it

module _ (rule : Rule) (v : List ℕ) (len i : ℕ) where
  module _ (p : Part) (is : place_meaning (Some p) ≡ part_place rule v len i) where
    pub place_inside : p.start + p.size ≤ length v
    unfolding place_meaning part_meaning
    place_inside = rw (← is) at (part_inside rule v len i)

    -- its bytes, from its first place to the place after it
    pub read_part_lem : take (p.start + p.size - p.start) (drop p.start v) ≡ read_part rule v len i
    unfolding read_part part_bytes place_meaning part_meaning
    read_part_lem = rw (← is) (ap (λ (n : ℕ). take n (drop p.start v)) (add-sub_cancel_left p.start p.size))

  -- no part is empty
  pub read_none : place_meaning None ≡ part_place rule v len i → [] ≡ read_part rule v len i
  unfolding read_part part_bytes place_meaning no_part
  read_none is = rw (← is) refl
