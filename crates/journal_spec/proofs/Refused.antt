-- Any refusal writes no byte: a call that is declined, or that finds the journal damaged, leaves every byte of the slice and the length.
-- And reading refuses as scan does, and then by 10. For every slice and length, whether or not a list of calls leads there. Assumes nothing.
use mathlib.Core.Path.{◌≡◌, refl, sym, ap, ◌∙◌}
use Prim.Native.Nat.{ℕ, zero, suc, ◌≤◌, ◌<◌}
use mathlib.Core.List.{List, [], ◌∷◌}
use mathlib.Core.Logic.{◌⊎◌, inl, inr, ⊎_elim}
use mathlib.Core.Option.{Option}
use mathlib.Core.Bool.{Bool, true, false, cond}
use lib.Dec.{eqb}
use native.Mathlib.Omega.{arith}
use lib.ListN.{length}
use Rattle.journal_spec.specs.Profile.{Rule}
use Rattle.journal_spec.specs.Scan.{Placed, Contents, standing, faulty, contents_of, status_of, scan_of}
use Rattle.journal_spec.specs.Scan as S
use Rattle.journal_spec.specs.Read.{no_part, part_at, part_of, part_place, part_bytes, read_part, Mark, mark_of, marked, unmarked, mark_at, mark_in, read_mark}
use Rattle.journal_spec.specs.Log.{Gathered, gathered, misread, gather_of}
use Rattle.journal_spec.specs.Request.{Journal, log, Request, times_of, AppendResult, extended, declined_at, damaged, Outcome}
use Rattle.journal_spec.specs.Append.{unchanged, extend, settle, append_to, append_with, append_of}
use Rattle.journal_spec.specs.Shown.{GivenTimes}
use Rattle.journal_spec.proofs.Given.{times_given, line_refused}

-- every byte of both buffers and the length are as they were
pub record Untouched (j : Journal) (before : Option (List ℕ)) (out : Outcome) : Type 0 where
  pub journal : out.journal ≡ j
  pub index : out.index ≡ before

-- the answer is a length, or nothing was touched
settle_untouched : (n : ℕ) (j : Journal) (index : Option (List ℕ)) (committed : ℕ) (new : List ℕ) (next : Option (List ℕ)) (a : AppendResult)
    → (settle n j index committed new next).answer ≡ a → ((m : ℕ) → a ≡ extended m → ⊥) → Untouched j index (settle n j index committed new next)
unfolding settle extend unchanged
settle_untouched zero j index committed new next a e other = absurd (other _ (sym e))
settle_untouched (suc n) j index committed new next a e other = record { journal = refl; index = refl }

untouched : (x : Contents) (j : Journal) (q : Request) (a : AppendResult)
    → (append_to x j q).answer ≡ a → ((m : ℕ) → a ≡ extended m → ⊥) → Untouched j q.index (append_to x j q)
unfolding append_to unchanged
untouched (faulty n p) j q a e other = record { journal = refl; index = refl }
untouched (standing ps committed) j q a e other = settle_untouched _ j q.index committed _ _ a e other

-- scan says damaged exactly of faulty contents
pub standing_not_damaged : (len : ℕ) (ps : List Placed) (committed n p : ℕ) → status_of len (standing ps committed) ≡ S.damaged n p → ⊥
unfolding status_of
standing_not_damaged len ps committed n p h = go (eqb committed len) h
  where
    go : (t : Bool) → cond t (S.whole (length ps) committed) (S.torn (length ps) committed) ≡ S.damaged n p → ⊥
    go true h = let z : ◌≡◌ {A = ℕ} 0 1 = cc in omega arith
    go false h = let z : ◌≡◌ {A = ℕ} 0 1 = cc in omega arith

-- faulty contents are what scan says damaged of
pub faulty_said : (len : ℕ) (x : Contents) (n p : ℕ) → status_of len x ≡ S.damaged n p → x ≡ faulty n p
faulty_said len (standing ps committed) n p h = absurd (standing_not_damaged len ps committed n p h)
faulty_said len (faulty m q) n p h =
    unfold status_of in
    let a : m ≡ n = cc in
    let b : q ≡ p = cc in
    rw (a, b) refl

fault_said : (len m q n p : ℕ) (j : Journal) (r : Request) → status_of len (faulty m q) ≡ S.damaged n p
    → (append_to (faulty m q) j r).answer ≡ damaged n p
unfolding status_of append_to unchanged
fault_said len m q n p j r h =
    let a : m ≡ n = cc in
    let b : q ≡ p = cc in
    rw (a, b) refl

unread_untouched : (g : Gathered) (j : Journal) (q : Request) (a : AppendResult)
    → (append_with g j q).answer ≡ a → ((m : ℕ) → a ≡ extended m → ⊥) → Untouched j q.index (append_with g j q)
unfolding append_with unchanged
unread_untouched (misread n p) j q a e other = record { journal = refl; index = refl }
unread_untouched (gathered ts) j q a e other = untouched _ j q a e other

module _ (j : Journal) (q : Request) where
  -- a call that answers no length leaves every byte of both buffers and the length
  pub refused_untouched : ((m : ℕ) → (append_of j q).answer ≡ extended m → ⊥) → Untouched j q.index (append_of j q)
  unfolding append_of
  refused_untouched other = unread_untouched (times_of q) j q _ refl other

  -- the log's refusal comes first, whatever the journal holds
  pub log_first : (bs : List ℕ) (n p : ℕ) → q.source ≡ log bs → gather_of q.name bs ≡ misread n p → (append_of j q).answer ≡ declined_at n p
  unfolding append_of append_with unchanged
  log_first bs n p s e = rw ((line_refused q n p).1 (record { bytes = bs; is_log = s; refused = e })) refl

  -- then the journal's faults, as scan says them, whatever is offered
  pub faults_first : (ts : List ℕ) → GivenTimes q ts → (n p : ℕ) → scan_of q.rule j.slice j.len ≡ S.damaged n p
      → (append_of j q).answer ≡ damaged n p
  unfolding scan_of append_of append_with
  faults_first ts g n p h = rw ((times_given q ts).1 g) (go (contents_of q.rule j.slice j.len) h)
    where
      go : (x : Contents) → status_of j.len x ≡ S.damaged n p → (append_to x j q).answer ≡ damaged n p
      go (standing ps committed) h = absurd (standing_not_damaged j.len ps committed n p h)
      go (faulty m p') h = fault_said j.len m p' n p j q h

-- reading refuses as scan does: an empty part, and the fault's number
pub reading_refused : (rule : Rule) (slice : List ℕ) (len i n p : ℕ) → scan_of rule slice len ≡ S.damaged n p
    → (read_part rule slice len i ≡ []) × (read_mark rule slice len i ≡ unmarked n)
unfolding scan_of read_part part_place read_mark
reading_refused rule slice len i n p h = go (contents_of rule slice len) h
  where
    number : (m q : ℕ) → status_of len (faulty m q) ≡ S.damaged n p → mark_in (faulty m q) i ≡ unmarked n
    number m q h = unfold status_of mark_in in let e : m ≡ n = cc in ap unmarked e

    go : (x : Contents) → status_of len x ≡ S.damaged n p → (part_bytes slice (part_of x i) ≡ []) × (mark_in x i ≡ unmarked n)
    go (standing ps committed) h = absurd (standing_not_damaged len ps committed n p h)
    go (faulty m q) h = (unfold part_bytes part_of no_part in refl, number m q h)

-- the part stands nowhere: place and number of its bytes are 0
pub place_refused : (rule : Rule) (slice : List ℕ) (len i n p : ℕ) → scan_of rule slice len ≡ S.damaged n p
    → part_place rule slice len i ≡ record { start = 0; size = 0 }
unfolding scan_of part_place
place_refused rule slice len i n p h = go (contents_of rule slice len) h
  where
    go : (x : Contents) → status_of len x ≡ S.damaged n p → part_of x i ≡ record { start = 0; size = 0 }
    go (standing ps committed) h = absurd (standing_not_damaged len ps committed n p h)
    go (faulty m q) h = unfold part_of no_part in refl

-- ---- no such record

part_absent : (ps : List Placed) (i : ℕ) → length ps ≤ i → part_at ps i ≡ no_part
unfolding part_at
part_absent [] i h = refl
part_absent (p ∷ ps) zero h = absurd (omega arith)
part_absent (p ∷ ps) (suc i) h = part_absent ps i (omega arith)

mark_absent : (ps : List Placed) (i : ℕ) → length ps ≤ i → mark_at ps i ≡ unmarked 10
unfolding mark_at
mark_absent [] i h = refl
mark_absent (p ∷ ps) zero h = absurd (omega arith)
mark_absent (p ∷ ps) (suc i) h = mark_absent ps i (omega arith)

mark_present : (ps : List Placed) (i : ℕ) → i < length ps → (m : Mark) × (mark_at ps i ≡ marked m)
unfolding mark_at
mark_present [] i h = absurd (omega arith)
mark_present (p ∷ ps) zero h = (mark_of p.content.times, refl)
mark_present (p ∷ ps) (suc i) h = mark_present ps i (omega arith)

-- scan says whole or torn, with so many records
pub record Stands (x : S.ScanResult) (n : ℕ) : Type 0 where
  pub committed : ℕ
  pub says : (x ≡ S.whole n committed) ⊎ (x ≡ S.torn n committed)

-- where it says so, as many stand
standing_number : (len : ℕ) (x : Contents) (n : ℕ) → Stands (status_of len x) n → (ps : List Placed) × (c : ℕ) × (x ≡ standing ps c) × (length ps ≡ n)
unfolding status_of
standing_number len (faulty m p) n s = ⊎_elim
    (λ e. let z : ◌≡◌ {A = ℕ} 0 1 = cc in absurd (omega arith))
    (λ e. let z : ◌≡◌ {A = ℕ} 0 1 = cc in absurd (omega arith)) s.says
standing_number len (standing ps c) n s = (ps, c, refl, go (eqb c len) s.says)
  where
    go : (t : Bool)
        → (cond t (S.whole (length ps) c) (S.torn (length ps) c) ≡ S.whole n s.committed)
        ⊎ (cond t (S.whole (length ps) c) (S.torn (length ps) c) ≡ S.torn n s.committed)
        → length ps ≡ n
    go true (inl e) = cc
    go true (inr e) = let z : ◌≡◌ {A = ℕ} 0 1 = cc in absurd (omega arith)
    go false (inl e) = let z : ◌≡◌ {A = ℕ} 0 1 = cc in absurd (omega arith)
    go false (inr e) = cc

module _ (rule : Rule) (slice : List ℕ) (len i n : ℕ) (stands : Stands (scan_of rule slice len) n) where
  -- an i that is not below their number: an empty part, and 10
  pub reading_absent : n ≤ i → (read_part rule slice len i ≡ []) × (read_mark rule slice len i ≡ unmarked 10)
  unfolding scan_of read_part part_place read_mark
  reading_absent h =
      let s = standing_number len (contents_of rule slice len) n stands in
      rw s.2 (unfold part_of mark_in in (
        rw (part_absent s.0 i (omega (arith, s.3))) (unfold part_bytes no_part in refl),
        mark_absent s.0 i (omega (arith, s.3)),
      ))

  pub place_absent : n ≤ i → part_place rule slice len i ≡ record { start = 0; size = 0 }
  unfolding scan_of part_place
  place_absent h =
      let s = standing_number len (contents_of rule slice len) n stands in
      rw s.2 (unfold part_of in part_absent s.0 i (omega (arith, s.3)) ∙ unfold no_part in refl)

  -- any other: a mark
  pub reading_present : i < n → (m : Mark) × (read_mark rule slice len i ≡ marked m)
  unfolding scan_of read_mark
  reading_present h =
      let s = standing_number len (contents_of rule slice len) n stands in
      rw s.2 (unfold mark_in in mark_present s.0 i (omega (arith, s.3)))
