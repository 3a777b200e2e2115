-- Request 2026-14: what a scan by a rule accepts, the plain one accepts with the same records, each of which keeps the rule; and what the
-- plain one accepts, no record shown breaking the rule, it answers likewise. Scan and both calls of reading follow. Assumes nothing.
use mathlib.Core.Path.{◌≡◌, refl, sym, ap, ◌∙◌}
use Prim.Native.Nat.{ℕ, zero, suc, ◌-◌, min}
use mathlib.Core.List.{List, [], ◌∷◌, ◌++◌, append_assoc, append-nil}
use mathlib.Core.Bool.{Bool, true, false, cond}
use native.Mathlib.Omega.{arith}
use lib.ListN.{length, take}
use lib.Dec.{leb}
use Rattle.facts.proofs.Tests.{by_test_lem}
use Rattle.journal_spec.specs.Refusals.{length_refusal}
use Rattle.journal_spec.specs.Reader.{Found, found, fault, short, run}
use Rattle.journal_spec.specs.Record.{Record, last_of, record_reader}
use Rattle.journal_spec.specs.Profile.{Rule, plain, keeps}
use Rattle.journal_spec.specs.Scan.{max_length, Placed, records_of, Contents, standing, faulty, contents_from, contents_of}
use Rattle.journal_spec.specs.Scan.{damaged, status_of, scan_of}
use Rattle.journal_spec.specs.Read.{part_place, read_part, read_mark}
use Rattle.journal_spec.proofs.Scanning.{at_short, at_fault, at_found, at_broken, turn_short, turn_fault, turn_found}

-- each of these records keeps the rule
abbrev pub AllKeep : Rule → List Placed → Type 0
AllKeep rule [] = Unit {0}
AllKeep rule (p ∷ ps) = (keeps rule p.content ≡ true) × AllKeep rule ps

keep_later : (rule : Rule) (ps qs : List Placed) → AllKeep rule (ps ++ qs) → AllKeep rule qs
keep_later rule [] qs k = k
keep_later rule (p ∷ ps) qs k = keep_later rule ps qs k.1

not_standing : {qs : List Placed} {c n p : ℕ} → faulty n p ≡ standing qs c → ⊥
not_standing h = let z : ◌≡◌ {A = ℕ} 0 1 = cc in omega arith

-- ---- one turn, by what the record's reader finds

module _ (rule : Rule) (more : ℕ) (ps : List Placed) (at : ℕ) (bs : List ℕ) where
  abbrev reads : Found Record → Type 0
  reads f = run (record_reader (last_of (records_of ps))) at bs ≡ f

  abbrev placed : Record → ℕ → Placed
  placed r e = record { content = r; start = at; size = e - at }

  turn_kept : (r : Record) (e : ℕ) (rest : List ℕ) → reads (found r e rest) → keeps rule r ≡ true
      → contents_from rule (suc more) ps at bs ≡ contents_from rule more (ps ++ placed r e ∷ []) e rest
  turn_kept r e rest ran k =
      let z : suc more - 1 ≡ more = omega arith in
      rw z at (turn_found rule (suc more) ps at bs r e rest (at_found rule (last_of (records_of ps)) at bs r e rest ran k) (omega arith))

  turn_broken : (r : Record) (e : ℕ) (rest : List ℕ) (qs : List Placed) (c : ℕ) → reads (found r e rest) → keeps rule r ≡ false
      → contents_from rule (suc more) ps at bs ≡ standing qs c → ⊥
  turn_broken r e rest qs c ran k h =
      not_standing (sym (turn_fault rule (suc more) ps at bs _ at (at_broken rule (last_of (records_of ps)) at bs r e rest ran k) (omega arith)) ∙ h)

  turn_bad : (n p : ℕ) (qs : List Placed) (c : ℕ) → reads (fault n p) → contents_from rule (suc more) ps at bs ≡ standing qs c → ⊥
  turn_bad n p qs c ran h =
      not_standing (sym (turn_fault rule (suc more) ps at bs n p (at_fault rule (last_of (records_of ps)) at bs n p ran) (omega arith)) ∙ h)

  turn_end : reads short → contents_from rule (suc more) ps at bs ≡ standing ps at
  turn_end ran = turn_short rule (suc more) ps at bs (at_short rule (last_of (records_of ps)) at bs ran)

plainly : (r : Record) → keeps plain r ≡ true
unfolding keeps
plainly r = refl

-- ---- accepted by a rule: accepted plainly

-- the plain scan holds the same, and all records after ps keep the rule
record Plainly (rule : Rule) (more : ℕ) (ps : List Placed) (at : ℕ) (bs : List ℕ) (qs : List Placed) (c : ℕ) : Type 0 where
  same : contents_from plain more ps at bs ≡ standing qs c
  others : List Placed
  parts : qs ≡ ps ++ others
  keep : AllKeep rule others

plainly_from : (rule : Rule) (more : ℕ) (ps : List Placed) (at : ℕ) (bs : List ℕ) (qs : List Placed) (c : ℕ)
    → contents_from rule more ps at bs ≡ standing qs c → Plainly rule more ps at bs qs c
plainly_from rule zero ps at bs qs c h =
    unfold contents_from in
    let p : ps ≡ qs = cc in
    record { same = h; others = []; parts = sym p ∙ sym (append-nil ps); keep = tt }
plainly_from rule (suc more) ps at bs qs c h = go (plainly_from rule more) (run (record_reader (last_of (records_of ps))) at bs) refl
  where
    go : ((ps : List Placed) (at : ℕ) (bs : List ℕ) (qs : List Placed) (c : ℕ) → contents_from rule more ps at bs ≡ standing qs c
        → Plainly rule more ps at bs qs c)
        → (f : Found Record) → run (record_reader (last_of (records_of ps))) at bs ≡ f → Plainly rule (suc more) ps at bs qs c
    go later (found r e rest) ran =
        by_test_lem (keeps rule r)
        (λ k.
        let p : Placed = record { content = r; start = at; size = e - at } in
        let x = later (ps ++ p ∷ []) e rest qs c (sym (turn_kept rule more ps at bs r e rest ran k) ∙ h) in
        record {
          same = turn_kept plain more ps at bs r e rest ran (plainly r) ∙ x.same;
          others = p ∷ x.others;
          parts = x.parts ∙ append_assoc ps (p ∷ []) x.others;
          keep = (k, x.keep);
        })
        (λ k. absurd (turn_broken rule more ps at bs r e rest qs c ran k h))
    go later (fault n p) ran = absurd (turn_bad rule more ps at bs n p qs c ran h)
    go later short ran =
        let e : standing ps at ≡ standing qs c = sym (turn_end rule more ps at bs ran) ∙ h in
        let p : ps ≡ qs = cc in
        record { same = turn_end plain more ps at bs ran ∙ e; others = []; parts = sym p ∙ sym (append-nil ps); keep = tt }

-- ---- accepted plainly, no record breaking the rule: accepted by the rule

likewise_from : (rule : Rule) (more : ℕ) (ps : List Placed) (at : ℕ) (bs : List ℕ) (qs : List Placed) (c : ℕ)
    → contents_from plain more ps at bs ≡ standing qs c → AllKeep rule qs → contents_from rule more ps at bs ≡ standing qs c
likewise_from rule zero ps at bs qs c h k = unfold contents_from in h
likewise_from rule (suc more) ps at bs qs c h k = go (likewise_from rule more) (run (record_reader (last_of (records_of ps))) at bs) refl
  where
    go : ((ps : List Placed) (at : ℕ) (bs : List ℕ) (qs : List Placed) (c : ℕ)
        → contents_from plain more ps at bs ≡ standing qs c → AllKeep rule qs → contents_from rule more ps at bs ≡ standing qs c)
        → (f : Found Record) → run (record_reader (last_of (records_of ps))) at bs ≡ f → contents_from rule (suc more) ps at bs ≡ standing qs c
    go later (found r e rest) ran =
        let p : Placed = record { content = r; start = at; size = e - at } in
        let next = sym (turn_kept plain more ps at bs r e rest ran (plainly r)) ∙ h in
        let x = plainly_from plain more (ps ++ p ∷ []) e rest qs c next in
        let all : AllKeep rule (ps ++ (p ∷ x.others)) = rw (x.parts, append_assoc) at k in
        turn_kept rule more ps at bs r e rest ran (keep_later rule ps (p ∷ x.others) all).0 ∙ later (ps ++ p ∷ []) e rest qs c next k
    go later (fault n p) ran = absurd (turn_bad plain more ps at bs n p qs c ran h)
    go later short ran = turn_end rule more ps at bs ran ∙ sym (turn_end plain more ps at bs ran) ∙ h

-- ---- of a slice

module _ (rule : Rule) (slice : List ℕ) (len : ℕ) (ps : List Placed) (c : ℕ) where
  pub rule_then_plain : contents_of rule slice len ≡ standing ps c → (contents_of plain slice len ≡ standing ps c) × AllKeep rule ps
  unfolding contents_of
  rule_then_plain h = go (leb len (min (length slice) max_length)) h
    where
      go : (t : Bool) → cond t (contents_from rule len [] 0 (take len slice)) (faulty length_refusal 0) ≡ standing ps c
          → (cond t (contents_from plain len [] 0 (take len slice)) (faulty length_refusal 0) ≡ standing ps c) × AllKeep rule ps
      go true h = let x = plainly_from rule len [] 0 (take len slice) ps c h in (x.same, rw x.parts x.keep)
      go false h = absurd (not_standing h)

  pub plain_then_rule : contents_of plain slice len ≡ standing ps c → AllKeep rule ps → contents_of rule slice len ≡ standing ps c
  unfolding contents_of
  plain_then_rule h k = go (leb len (min (length slice) max_length)) h
    where
      go : (t : Bool) → cond t (contents_from plain len [] 0 (take len slice)) (faulty length_refusal 0) ≡ standing ps c
          → cond t (contents_from rule len [] 0 (take len slice)) (faulty length_refusal 0) ≡ standing ps c
      go true h = likewise_from rule len [] 0 (take len slice) ps c h k
      go false h = h

-- scan by the rule finds no fault: it and both calls of reading answer as the plain ones do
pub record Likewise (rule : Rule) (slice : List ℕ) (len : ℕ) : Type 0 where
  pub scan : scan_of rule slice len ≡ scan_of plain slice len
  pub part : (i : ℕ) → read_part rule slice len i ≡ read_part plain slice len i
  pub mark : (i : ℕ) → read_mark rule slice len i ≡ read_mark plain slice len i

likewise : (rule : Rule) (slice : List ℕ) (len : ℕ) → contents_of rule slice len ≡ contents_of plain slice len → Likewise rule slice len
unfolding scan_of read_part part_place read_mark
likewise rule slice len e = record { scan = rw e refl; part = λ i. rw e refl; mark = λ i. rw e refl }

-- what the scan by a rule accepts, whole or torn
pub rule_accepts : (rule : Rule) (slice : List ℕ) (len : ℕ) → ((n p : ℕ) → scan_of rule slice len ≡ damaged n p → ⊥) → Likewise rule slice len
unfolding scan_of
rule_accepts rule slice len ok = go (contents_of rule slice len) refl
  where
    go : (x : Contents) → contents_of rule slice len ≡ x → Likewise rule slice len
    go (standing ps c) e = likewise rule slice len (e ∙ sym (rule_then_plain rule slice len ps c e).0)
    go (faulty n p) e = absurd (ok n p (ap (status_of len) e ∙ unfold status_of in refl))

-- what the plain scan accepts, no record shown breaking the rule
pub plain_accepts : (rule : Rule) (slice : List ℕ) (len : ℕ) (ps : List Placed) (c : ℕ) → contents_of plain slice len ≡ standing ps c → AllKeep rule ps
    → Likewise rule slice len
plain_accepts rule slice len ps c e k = likewise rule slice len (plain_then_rule rule slice len ps c e k ∙ sym e)
