-- The committed length of a journal that stands: it is inside the length, and the scan answers it.
-- Assumes nothing.
use Rattle.std.proofs.Common.{◌≡◌, ℕ, zero, suc, ◌+◌, ◌-◌, ◌≤◌, min, Bool, true, false, cond, eqb, leb, List, [], ◌∷◌, ◌++◌, length, take, sym, refl, ap, ◌∙◌, arith, length-drop, length-take, leb-false, leb-true}
use Rattle.journal_spec.specs.Reader.{Found, found, fault, short}
use Rattle.journal_spec.specs.Record.{Record, last_of, record_reader}
use Rattle.journal_spec.specs.Profile.{Rule}
use Rattle.journal_spec.specs.Scan.{max_length, Placed, records_of, standing, faulty, record_at, contents_from, contents_of, whole, torn, status_of}
use Rattle.journal_spec.proofs.Reading.{run_left}
use Rattle.journal_spec.proofs.Scanning.{found_at, turn_short, turn_fault, turn_found, contents_fits, contents_long}
use Rattle.command_append.specs.Extension.{committed_in}

standing_not_faulty : (ps : List Placed) (c n p : ℕ) → faulty n p ≡ standing ps c → ⊥
standing_not_faulty ps c n p e = let z : ◌≡◌ {A = ℕ} 0 1 = cc in omega arith

committed_within : (rule : Rule) (more : ℕ) (ps : List Placed) (at : ℕ) (bs : List ℕ) (qs : List Placed) (c : ℕ)
    → contents_from rule more ps at bs ≡ standing qs c → c ≤ at + length bs
unfolding contents_from
committed_within rule zero ps at bs qs c e = let same : at ≡ c = cc in omega arith
committed_within rule (suc more) ps at bs qs c e =
    go (λ r next rest h. committed_within rule more (ps ++ record { content = r; start = at; size = next - at } ∷ []) next rest qs c h)
    (record_at rule (last_of (records_of ps)) at bs) refl
  where
    go : ((r : Record) (next : ℕ) (rest : List ℕ)
        → contents_from rule more (ps ++ record { content = r; start = at; size = next - at } ∷ []) next rest ≡ standing qs c → c ≤ next + length rest)
        → (f : Found Record) → record_at rule (last_of (records_of ps)) at bs ≡ f → c ≤ at + length bs
    go later (found r next rest) h =
        let l = run_left (record_reader (last_of (records_of ps))) at bs r next rest (found_at rule (last_of (records_of ps)) at bs r next rest h).0 in
        let turn = turn_found rule (suc more) ps at bs r next rest h (omega arith) in
        let one : suc more - 1 ≡ more = omega arith in
        let below = later r next rest (rw one at (sym turn ∙ e)) in
        let left : length rest ≡ length bs - (next - at) = ap length l.same ∙ length-drop (next - at) bs in
        omega (arith, below, left, l.later, l.there)
    go later (fault n p) h = absurd (standing_not_faulty qs c n p (sym (turn_fault rule (suc more) ps at bs n p h (omega arith)) ∙ e))
    go later short h =
        let same : at ≡ c = same_place (sym (turn_short rule (suc more) ps at bs h) ∙ e) in
        omega arith
      where
        same_place : standing ps at ≡ standing qs c → at ≡ c
        same_place f = cc

-- what scan finds committed is inside the length
pub committed_inside : (rule : Rule) (slice : List ℕ) (len : ℕ) (ps : List Placed) (c : ℕ) → contents_of rule slice len ≡ standing ps c → c ≤ len
committed_inside rule slice len ps c h = go (leb len (min (length slice) max_length)) refl
  where
    go : (t : Bool) → leb len (min (length slice) max_length) ≡ t → c ≤ len
    go false e =
        absurd (standing_not_faulty ps c _ _ (sym (contents_long rule slice len (leb-false len (min (length slice) max_length) e)) ∙ h))
    go true e =
        let k = leb-true len (min (length slice) max_length) e in
        let within = committed_within rule len [] 0 (take len slice) ps c (sym (contents_fits rule slice len (omega arith) (omega arith)) ∙ h) in
        let size = length-take len slice in
        omega (arith, k, within, size)

-- it is what a scan of the journal answers
pub committed_found : (len : ℕ) (ps : List Placed) (c : ℕ) → committed_in (status_of len (standing ps c)) ≡ c
unfolding committed_in status_of
committed_found len ps c = go (eqb c len)
  where
    go : (t : Bool) → committed_in (cond t (whole (length ps) c) (torn (length ps) c)) ≡ c
    go true = refl
    go false = refl
