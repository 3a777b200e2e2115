-- The numbers that an end state may show: a fault's number is one of the papers' tables and its place is inside the journal, records and bytes
-- are at most 65,536.
-- Assumes nothing.
use mathlib.Core.Path.{◌≡◌, refl, sym, ap, ◌∙◌}
use Prim.Native.Nat.{ℕ, ◌+◌, ◌≤◌, min}
use mathlib.Core.List.{List, [], ◌∷◌}
use mathlib.Core.Bool.{Bool, true, false, cond}
use native.Mathlib.Omega.{arith}
use lib.ListN.{length, take, drop, length-drop, length-append}
use lib.Seq.{take-length}
use lib.Dec.{leb, eqb}
use borrow.Author.Tests.{leb-true, leb-false}
use Rattle.journal_spec.specs.Bytes.{value_of, AreBytes}
use Rattle.journal_spec.specs.Reader.{Reader, done, field, Found, found, fault, short, run}
use Rattle.journal_spec.specs.Record.{Record, Last, record_reader, records_bytes}
use Rattle.journal_spec.specs.Profile.{Rule, keeps}
use Rattle.journal_spec.specs.Scan.{max_length, Placed, Contents, standing, faulty, judged, record_at, contents_of, whole, torn, damaged, status_of, scan_of}
use Rattle.journal_spec.specs.Tests.{each}
use Rattle.journal_spec.proofs.Reading.{field_cases}
use Rattle.journal_spec.proofs.Scanning.{records_count, contents_fits, contents_long}
use Rattle.journal_spec.proofs.Places.{length_placed}
use Rattle.journal_spec.proofs.Table.{record_numbers, among_each, contents_fault, scan_number}
use Rattle.journal_spec.proofs.Explained.{holding}
use Rattle.journal_spec.proofs.Profiles.{rule_then_plain}
use Rattle.journal_listing.proofs.Longest.{Numbered}

-- a fault's place is inside the bytes that are read
fault_place : {A : Type 0} (r : Reader A) (at : ℕ) (bs : List ℕ) (n p : ℕ) → run r at bs ≡ fault n p → p ≤ at + length bs
unfolding run
fault_place (done a) at bs n p e = let z : ◌≡◌ {A = ℕ} 0 1 = cc in absurd (omega arith)
fault_place (field w refusal next) at bs n p e =
    field_cases w refusal next at bs (λ f. f ≡ fault n p → p ≤ at + length bs)
    (λ few x. let z : ◌≡◌ {A = ℕ} 0 1 = cc in absurd (omega arith))
    (λ m enough bad x. let place : at ≡ p = cc in omega arith)
    (λ enough good x.
    omega (arith, fault_place (next (value_of (take w bs))) (at + w) (drop w bs) n p x, length-drop w bs))
    e

-- so is that of a record that breaks a rule
place_at : (rule : Rule) (last : Last) (at : ℕ) (bs : List ℕ) (n p : ℕ) → record_at rule last at bs ≡ fault n p → p ≤ at + length bs
unfolding record_at
place_at rule last at bs n p h = go (run (record_reader last) at bs) refl h
  where
    by_rule_lem : (t : Bool) (r : Record) (e : ℕ) (rest : List ℕ) → cond t (found r e rest) (fault 19 at) ≡ fault n p → p ≤ at + length bs
    by_rule_lem true r e rest h = let z : ◌≡◌ {A = ℕ} 0 1 = cc in absurd (omega arith)
    by_rule_lem false r e rest h = let place : at ≡ p = cc in omega arith

    go : (f : Found Record) → run (record_reader last) at bs ≡ f → judged rule at f ≡ fault n p → p ≤ at + length bs
    go (found r e rest) ran h = by_rule_lem (keeps rule r) r e rest (unfold judged in h)
    go (fault m q) ran h = unfold judged in
        let same : fault m q ≡ fault n p = h in
        fault_place (record_reader last) at bs n p (ran ∙ same)
    go short ran h = unfold judged in let z : ◌≡◌ {A = ℕ} 0 1 = cc in absurd (omega arith)

-- that of a journal is inside the longest one
contents_place : (rule : Rule) (b : List ℕ) (n p : ℕ) → contents_of rule b (length b) ≡ faulty n p → p ≤ max_length
contents_place rule b n p e = go (leb (length b) (min (length b) max_length)) refl
  where
    go : (t : Bool) → leb (length b) (min (length b) max_length) ≡ t → p ≤ max_length
    go false t =
        let same : faulty 1 0 ≡ faulty n p = sym (contents_long rule b (length b) (leb-false (length b) (min (length b) max_length) t)) ∙ e in
        let place : 0 ≡ p = cc in
        omega arith
    go true t =
        let fits = leb-true (length b) (min (length b) max_length) t in
        let f = contents_fault rule (length b) [] 0 (take (length b) b) n p (sym (contents_fits rule b (length b) (omega arith) (omega arith)) ∙ e) in
        let place = place_at rule f.last f.start f.rest n p f.ran in
        let size : length (take (length b) b) ≡ length b = ap length (take-length b) in
        omega (arith, place, f.inside, size)

-- and so is what a scan answers
pub scan_place : (rule : Rule) (b : List ℕ) (n p : ℕ) → scan_of rule b (length b) ≡ damaged n p → p ≤ max_length
unfolding scan_of status_of
scan_place rule b n p = go (contents_of rule b (length b)) refl
  where
    unfaulted : (t : Bool) (m c : ℕ) → cond t (whole m c) (torn m c) ≡ damaged n p → p ≤ max_length
    unfaulted true m c h = let z : ◌≡◌ {A = ℕ} 0 1 = cc in absurd (omega arith)
    unfaulted false m c h = let z : ◌≡◌ {A = ℕ} 0 1 = cc in absurd (omega arith)

    go : (c : Contents) → contents_of rule b (length b) ≡ c → status_of (length b) c ≡ damaged n p → p ≤ max_length
    go (standing ps committed) e h = unfaulted (eqb committed (length b)) (length ps) committed h
    go (faulty m q) e h =
        let place : q ≡ p = cc in
        omega (arith, place, contents_place rule b m q e)

-- the end state's numbers have few digits
pub scan_numbered : (rule : Rule) (b : List ℕ) → AreBytes b → Numbered (scan_of rule b (length b))
unfolding scan_of status_of
scan_numbered rule b bytes = go (contents_of rule b (length b)) refl
  where
    stands : (ps : List Placed) (committed : ℕ) → contents_of rule b (length b) ≡ standing ps committed → (length ps ≤ max_length) × (committed ≤ max_length)
    stands ps committed e =
        let x = holding b (length b) ps committed bytes (rule_then_plain rule b (length b) ps committed e).0 in
        let count : length ps ≡ length x.records = ap length x.places ∙ length_placed 0 x.records in
        let few = records_count [] x.records x.follow in
        let all : length b ≡ length (records_bytes x.records) + length x.tail =
        sym (ap length (take-length b)) ∙ ap length x.bytes ∙ length-append (records_bytes x.records) x.tail in
        (omega (arith, count, few, all, x.most), omega (arith, x.upto, all, x.most))

    one_of : (t : Bool) (n c : ℕ) → n ≤ max_length → c ≤ max_length → Numbered (cond t (whole n c) (torn n c))
    one_of true n c h k = (omega arith, omega arith)
    one_of false n c h k = (omega arith, omega arith)

    go : (c : Contents) → contents_of rule b (length b) ≡ c → Numbered (status_of (length b) (contents_of rule b (length b)))
    go (standing ps committed) e = let k = stands ps committed e in rw e (one_of (eqb committed (length b)) (length ps) committed k.0 k.1)
    go (faulty n p) e =
        let number = leb-true n max_length (among_each (λ (m : ℕ). leb m max_length) (1 ∷ 19 ∷ record_numbers) n (unfold each in refl)
        (scan_number rule b (length b) n p (rw e refl))) in
        let place = contents_place rule b n p e in
        rw e (omega (arith, number), omega (arith, place))
