-- Scan answers exactly what document 01's survey does, for every slice of bytes, every length and both rules: whole, torn, or damaged with the number
-- and the place. Assumes nothing.
use mathlib.Core.Path.{◌≡◌, refl, sym, ap, ◌∙◌}
use mathlib.Core.Logic.{◌⊎◌, inl, inr, ◌↔◌}
use Prim.Native.Nat.{ℕ, zero, suc, ◌+◌, ◌-◌, ◌≤◌, ◌<◌, min}
use mathlib.Core.List.{List, [], ◌∷◌, ◌++◌, append_assoc, append-nil}
use mathlib.Core.Bool.{Bool, true, false, cond}
use native.Mathlib.Omega.{arith}
use native.Mathlib.Nat.{add-zero, zero-add, add_assoc, add-sub_cancel_left}
use lib.ListN.{length, take, drop, length-append, length-drop, length-map, take-append-drop}
use lib.Seq.{append_snoc, take-add, take_at, drop_at, drop-drop, length-take-le}
use lib.Dec.{leb}
use borrow.Author.Tests.{leb-true, leb-false, eq-eqb, ne_eqb}
use Rattle.facts.proofs.Tests.{by_test_lem}
use Rattle.facts.proofs.Orders.{by_order}
use Rattle.journal_spec.specs.Bytes.{AreBytes, joined}
use Rattle.journal_spec.specs.Refusals.{profile_refusal}
use Rattle.journal_spec.specs.Reader.{Found, found, fault, short, run}
use Rattle.journal_spec.specs.Record.{Record, Last, last_of, record_reader, record_bytes, records_bytes}
use Rattle.journal_spec.specs.Scan.{max_length, Placed, records_of, standing, judged, record_at, contents_from, contents_of, ScanResult, whole, torn}
use Rattle.journal_spec.specs.Scan.{damaged, status_of, scan_of}
use Rattle.journal_spec.specs.Profile.{Rule, plain, keeps}
use Rattle.journal_spec.specs.Ranges.{Keeps, RecordRanges, AllRanges}
use Rattle.journal_spec.specs.Fields.{record_fields, FieldRefused, RunsOut}
use Rattle.journal_spec.specs.Scanned.{AllKeep, Upto, Fits, Scanned, too_long, refused_field, broken_rule, whole_records, torn_record}
use Rattle.journal_spec.proofs.Numbers.{bytes_take, bytes_drop}
use Rattle.journal_spec.proofs.Reading.{drop_take, field_short, short_not_fault, found_not_fault}
use Rattle.journal_spec.proofs.Records.{record_read_lem}
use Rattle.journal_spec.proofs.Ranged.{rule_ranged, good_exactly, reads_back, encoding_length}
use Rattle.journal_spec.proofs.Fields.{same_fields, fault_exactly, short_exactly}
use Rattle.journal_spec.proofs.Places.{placed_from, records_of_placed, length_placed}
use Rattle.journal_spec.proofs.Scanning.{follow_snoc, torn_none, records_snoc, records_count, records_of_snoc, at_short, at_found, at_broken, at_fault}
use Rattle.journal_spec.proofs.Scanning.{found_at, short_at, turn_short, turn_fault, turn_found, contents_fits}
use Rattle.journal_spec.proofs.Table.{length_exactly}

-- ---- whole records

keep_snoc : (rule : Rule) (rs : List Record) (r : Record) → AllKeep rule rs → Keeps rule r → AllKeep rule (rs ++ r ∷ [])
keep_snoc rule [] r a k = (k, tt)
keep_snoc rule (s ∷ rs) r a k = (a.0, keep_snoc rule rs r a.1 k)

-- one whole record more
upto_snoc : (rule : Rule) (b : List ℕ) (rs : List Record) (at : ℕ) (r : Record) (rest : List ℕ) → Upto rule b rs at → drop at b ≡ record_bytes r ++ rest
    → RecordRanges (last_of rs) r → Keeps rule r → Upto rule b (rs ++ r ∷ []) (at + length (record_bytes r))
upto_snoc rule b rs at r rest u e ranged kept =
    let size : length (drop at b) ≡ length (record_bytes r) + length rest = ap length e ∙ length-append (record_bytes r) rest in
    record {
      inside = omega (arith, size, length-drop at b, u.inside);
      bytes =
          take-add at (length (record_bytes r)) b
          ∙ rw (u.bytes, e, take_at (record_bytes r) rest (length (record_bytes r)) refl) (sym (records_snoc rs r));
      ranges = follow_snoc [] rs r u.ranges ranged;
      keep = keep_snoc rule rs r u.keep kept;
    }

-- the places of records behind one another
rest_after : (b : List ℕ) (at : ℕ) (xs rest : List ℕ) → drop at b ≡ xs ++ rest → rest ≡ drop (at + length xs) b
rest_after b at xs rest e = sym (drop_at xs rest (length xs) refl) ∙ ap (drop (length xs)) (sym e) ∙ drop-drop (length xs) at b

plain_kept : (rule : Rule) (rs : List Record) → AllKeep rule rs → AllKeep plain rs
plain_kept rule [] a = tt
plain_kept rule (r ∷ rs) a = (tt, plain_kept rule rs a.1)

plain_upto : (rule : Rule) (b : List ℕ) (rs : List Record) (at : ℕ) → Upto rule b rs at → Upto plain b rs at
plain_upto rule b rs at u = record { inside = u.inside; bytes = u.bytes; ranges = u.ranges; keep = plain_kept rule rs u.keep }

-- ---- what scan answers is so

length_records : (ps : List Placed) → length (records_of ps) ≡ length ps
unfolding records_of
length_records ps = length-map ps _

module _ (rule : Rule) (slice : List ℕ) (len : ℕ) (are_bytes : AreBytes slice) (fits : Fits slice len) where
  abbrev b : List ℕ
  b = take len slice

  all_of_it : length b ≡ len
  all_of_it = length-take-le len slice fits.0

  -- nothing stands behind some whole records but a torn tail
  stands_so : (ps : List Placed) (at : ℕ) → Upto rule b (records_of ps) at → (at < len → RunsOut b (record_fields (last_of (records_of ps))) at)
      → Scanned rule slice len (status_of len (standing ps at))
  unfolding status_of
  stands_so ps at u out =
      by_order len at
      (λ all.
      let same : at ≡ len = omega (arith, u.inside, all_of_it) in
      rw (same, eq-eqb len len refl, ← length_records ps) (whole_records fits (rw same at u)))
      (λ less. rw (ne_eqb at len (λ e. omega arith), ← length_records ps) (torn_record fits u less (out less)))

  -- the record behind some whole ones is refused
  refused_so : (rs : List Record) (at n p : ℕ) → Upto rule b rs at → record_at rule (last_of rs) at (drop at b) ≡ fault n p
      → Scanned rule slice len (damaged n p)
  unfolding record_at
  refused_so rs at n p u h = by_found (run (record_reader (last_of rs)) at (drop at b)) refl h
    where
      by_rule_lem : (t : Bool) (r : Record) (e : ℕ) (rest : List ℕ) → run (record_reader (last_of rs)) at (drop at b) ≡ found r e rest → keeps rule r ≡ t
          → cond t (found r e rest) (fault profile_refusal at) ≡ fault n p → Scanned rule slice len (damaged n p)
      by_rule_lem true r e rest ran k h = absurd (found_not_fault (sym h))
      by_rule_lem false r e rest ran k h =
          let read = record_read_lem (last_of rs) at (drop at b) r e rest (bytes_drop at b (bytes_take len slice are_bytes)) ran in
          let number : 19 ≡ n = cc in
          let place : at ≡ p = cc in
          let one : Upto plain b (rs ++ r ∷ []) (at + length (record_bytes r)) =
          upto_snoc plain b rs at r rest (plain_upto rule b rs at u) read.bytes ((good_exactly (last_of rs) r).0 read.good) tt in
          let breaks : Keeps rule r → ⊥ =
          λ kept. let z : true ≡ false = sym ((rule_ranged rule r).1 kept) ∙ k in let y : ◌≡◌ {A = ℕ} 0 1 = cc in omega arith in
          rw (← number, ← place) (broken_rule r fits u one breaks)

      by_found : (f : Found Record) → run (record_reader (last_of rs)) at (drop at b) ≡ f → judged rule at f ≡ fault n p
          → Scanned rule slice len (damaged n p)
      by_found (found r e rest) ran h = by_rule_lem (keeps rule r) r e rest ran refl (unfold judged in h)
      by_found (fault m q) ran h =
          let same : ◌≡◌ {A = Found Record} (fault m q) (fault n p) = unfold judged in h in
          refused_field fits u
          ((fault_exactly b (record_reader (last_of rs)) (record_fields (last_of rs)) at n p (same_fields (last_of rs)) u.inside).0 (ran ∙ same))
      by_found short ran h = unfold judged in absurd (short_not_fault (sym h))

  -- one turn of the scan, by what the turns after it answer
  module _ (more : ℕ)
      (later : (ps : List Placed) (at : ℕ) → Upto rule b (records_of ps) at → length b ≤ at + more
      → Scanned rule slice len (status_of len (contents_from rule more ps at (drop at b))))
      (ps : List Placed) (at : ℕ) (u : Upto rule b (records_of ps) at) (enough : length b ≤ at + suc more) where
    one_turn : (f : Found Record) → record_at rule (last_of (records_of ps)) at (drop at b) ≡ f
        → Scanned rule slice len (status_of len (contents_from rule (suc more) ps at (drop at b)))
    one_turn (found r e rest) ran =
        let f = found_at rule (last_of (records_of ps)) at (drop at b) r e rest ran in
        let read = record_read_lem (last_of (records_of ps)) at (drop at b) r e rest (bytes_drop at b (bytes_take len slice are_bytes)) f.0 in
        let one : Placed = record { content = r; start = at; size = e - at } in
        let snoc : records_of (ps ++ one ∷ []) ≡ records_of ps ++ r ∷ [] = records_of_snoc ps one in
        let ranged = (good_exactly (last_of (records_of ps)) r).0 read.good in
        let next = upto_snoc rule b (records_of ps) at r rest u read.bytes ranged ((rule_ranged rule r).0 f.1) in
        let rests : rest ≡ drop e b = rest_after b at (record_bytes r) rest read.bytes ∙ ap (λ (k : ℕ). drop k b) (sym read.place) in
        let z : suc more - 1 ≡ more = omega arith in
        let size = encoding_length (last_of (records_of ps)) r ranged in
        let turn : contents_from rule (suc more) ps at (drop at b) ≡ contents_from rule more (ps ++ one ∷ []) e (drop e b) =
        turn_found rule (suc more) ps at (drop at b) r e rest ran (omega arith) ∙ rw (z, rests) refl in
        rw turn (later (ps ++ one ∷ []) e (rw (snoc, read.place) next) (omega (arith, size, read.place)))
    one_turn (fault m q) ran =
        rw (turn_fault rule (suc more) ps at (drop at b) m q ran (omega arith)) (unfold status_of in refused_so (records_of ps) at m q u ran)
    one_turn short ran =
        rw (turn_short rule (suc more) ps at (drop at b) ran)
        (stands_so ps at u
        (λ less. (short_exactly b (record_reader (last_of (records_of ps))) (record_fields (last_of (records_of ps))) at (same_fields (last_of (records_of ps)))
        u.inside).0 (short_at rule (last_of (records_of ps)) at (drop at b) ran)))

  scanned_from : (more : ℕ) (ps : List Placed) (at : ℕ) → Upto rule b (records_of ps) at → length b ≤ at + more
      → Scanned rule slice len (status_of len (contents_from rule more ps at (drop at b)))
  scanned_from zero ps at u enough = unfold contents_from in stands_so ps at u (λ less. absurd (omega (arith, all_of_it)))
  scanned_from (suc more) ps at u enough = one_turn more (scanned_from more) ps at u enough (record_at rule (last_of (records_of ps)) at (drop at b)) refl

  scanned_of : Scanned rule slice len (scan_of rule slice len)
  unfolding scan_of records_of records_bytes joined
  scanned_of =
      rw (contents_fits rule slice len fits.0 fits.1)
      (scanned_from len [] 0 (record { inside = omega arith; bytes = refl; ranges = tt; keep = tt }) (omega (arith, all_of_it)))

-- ---- what is so scan answers

-- whole records that keep the rule are passed, whatever follows them
contents_past : (rule : Rule) (more : ℕ) (ps : List Placed) (rs : List Record) (at : ℕ) (bs : List ℕ) → AllRanges (records_of ps) rs → AllKeep rule rs
    → contents_from rule (more + length rs) ps at (records_bytes rs ++ bs) ≡ contents_from rule more (ps ++ placed_from at rs) (at + length (records_bytes rs)) bs
unfolding records_bytes joined placed_from
contents_past rule more ps [] at bs f k = rw (append-nil, add-zero, add-zero) refl
contents_past rule more ps (r ∷ rs) at bs f k =
    let n : ℕ = length (record_bytes r) in
    let p : Placed = record { content = r; start = at; size = n } in
    let snoc : records_of (ps ++ p ∷ []) ≡ records_of ps ++ r ∷ [] = records_of_snoc ps p in
    let read = (reads_back (last_of (records_of ps)) r f.0).on at (records_bytes rs ++ bs) in
    let one = at_found rule (last_of (records_of ps)) at (record_bytes r ++ (records_bytes rs ++ bs)) r (at + n) (records_bytes rs ++ bs) read
    ((rule_ranged rule r).1 k.0) in
    let z : more + suc (length rs) - 1 ≡ more + length rs = omega arith in
    rw append_assoc
    (turn_found rule (more + suc (length rs)) ps at (record_bytes r ++ (records_bytes rs ++ bs)) r (at + n) (records_bytes rs ++ bs) one (omega arith)
    ∙ rw (z, add-sub_cancel_left at n)
    (contents_past rule more (ps ++ p ∷ []) rs (at + n) bs (rw snoc f.1) k.1
    ∙ rw (append_snoc, length-append, add_assoc) refl))

-- a record's reader finds no fault where there is no byte
some_byte : (last : Last) (at : ℕ) (bs : List ℕ) (n p : ℕ) → run (record_reader last) at bs ≡ fault n p → 0 < length bs
unfolding record_reader
some_byte last at [] n p h = absurd (short_not_fault (sym h ∙ field_short 2 _ _ at [] (omega arith)))
some_byte last at (x ∷ bs) n p h = omega arith

nothing_left : (n : ℕ) (bs : List ℕ) → length bs ≤ n → drop n bs ≡ []
nothing_left zero [] h = refl
nothing_left zero (x ∷ bs) h = absurd (omega arith)
nothing_left (suc n) [] h = refl
nothing_left (suc n) (x ∷ bs) h = nothing_left n bs (omega arith)

-- the last of some records may stand where it stands
follow_last : (before rs : List Record) (r : Record) → AllRanges before (rs ++ r ∷ []) → RecordRanges (last_of (before ++ rs)) r
follow_last before [] r f = rw append-nil f.0
follow_last before (s ∷ rs) r f = rw (← append_snoc) (follow_last (before ++ s ∷ []) rs r f.1)

-- what a slice holds, by what stands behind some whole records
module _ (rule : Rule) (slice : List ℕ) (len : ℕ) (fits : Fits slice len) (rs : List Record) (start : ℕ) (u : Upto rule (take len slice) rs start) where
  abbrev bytes : List ℕ
  bytes = take len slice

  more : ℕ
  more = len - length rs

  start_is : start ≡ length (records_bytes rs)
  start_is = sym (length-take-le start bytes u.inside) ∙ ap length u.bytes

  -- there is one turn more than records where there is a byte behind them
  turns : (len ≡ more + length rs) × (start < len → 0 < more)
  unfolding more
  turns =
      let few = records_count [] rs u.ranges in
      let size = length-take-le len slice fits.0 in
      (omega (arith, few, start_is, u.inside, size), λ less. omega (arith, few, start_is))

  past : contents_of rule slice len ≡ contents_from rule more (placed_from 0 rs) start (drop start bytes)
  unfolding records_of
  past =
      contents_fits rule slice len fits.0 fits.1
      ∙ ap (λ (k : ℕ). contents_from rule k [] 0 bytes) turns.0
      ∙ ap (λ (l : List ℕ). contents_from rule (more + length rs) [] 0 l) (sym (take-append-drop start bytes) ∙ rw u.bytes refl)
      ∙ contents_past rule more [] rs 0 (drop start bytes) u.ranges u.keep
      ∙ ap (λ (k : ℕ). contents_from rule more (placed_from 0 rs) k (drop start bytes)) (zero-add (length (records_bytes rs)) ∙ sym start_is)

  -- a fault
  fault_behind : (n p : ℕ) → start < len → record_at rule (last_of rs) start (drop start bytes) ≡ fault n p → scan_of rule slice len ≡ damaged n p
  unfolding scan_of
  fault_behind n p some h =
      rw (past ∙ turn_fault rule more (placed_from 0 rs) start (drop start bytes) n p (rw (records_of_placed 0 rs) h) (turns.1 some))
      (unfold status_of in refl)

  -- too few bytes
  short_behind : run (record_reader (last_of rs)) start (drop start bytes) ≡ short → scan_of rule slice len ≡ status_of len (standing (placed_from 0 rs) start)
  unfolding scan_of
  short_behind h =
      rw (past ∙ turn_short rule more (placed_from 0 rs) start (drop start bytes)
      (rw (records_of_placed 0 rs) (at_short rule (last_of rs) start (drop start bytes) h))) refl

  field_said : (n p : ℕ) → FieldRefused bytes (record_fields (last_of rs)) start n p → scan_of rule slice len ≡ damaged n p
  field_said n p f =
      let ran = (fault_exactly bytes (record_reader (last_of rs)) (record_fields (last_of rs)) start n p (same_fields (last_of rs)) u.inside).1 f in
      let some : 0 < length (drop start bytes) = some_byte (last_of rs) start (drop start bytes) n p ran in
      fault_behind n p (omega (arith, some, length-drop start bytes, length-take-le len slice fits.0))
      (at_fault rule (last_of rs) start (drop start bytes) n p ran)

  rule_said : (r : Record) (next : ℕ) → Upto plain bytes (rs ++ r ∷ []) next → (Keeps rule r → ⊥) → scan_of rule slice len ≡ damaged 19 start
  rule_said r next one breaks =
      let after : next ≡ length (records_bytes rs ++ record_bytes r) =
      sym (length-take-le next bytes one.inside) ∙ ap length (one.bytes ∙ records_snoc rs r) in
      let sizes : length (records_bytes rs ++ record_bytes r) ≡ length (records_bytes rs) + length (record_bytes r) =
      length-append (records_bytes rs) (record_bytes r) in
      let own : take (next - start) (drop start bytes) ≡ record_bytes r =
      sym (drop_take start next bytes u.inside (omega (arith, sizes, start_is)))
      ∙ ap (drop start) (one.bytes ∙ records_snoc rs r)
      ∙ drop_at (records_bytes rs) (record_bytes r) start (sym start_is) in
      let post : List ℕ = drop (next - start) (drop start bytes) in
      let parts : record_bytes r ++ post ≡ drop start bytes = ap (λ (l : List ℕ). l ++ post) (sym own) ∙ take-append-drop (next - start) (drop start bytes) in
      let ranged : RecordRanges (last_of rs) r = follow_last [] rs r one.ranges in
      let ran = (reads_back (last_of rs) r ranged).on start post in
      let broken : keeps rule r ≡ false = by_test_lem (keeps rule r) (λ k. absurd (breaks ((rule_ranged rule r).0 k))) (λ k. k) in
      fault_behind 19 start (omega (arith, sizes, start_is, encoding_length (last_of rs) r ranged, one.inside, length-take-le len slice fits.0))
      (at_broken rule (last_of rs) start (drop start bytes) r (start + length (record_bytes r)) post (rw parts at ran) broken)

  torn_said : start < len → RunsOut bytes (record_fields (last_of rs)) start → scan_of rule slice len ≡ torn (length rs) start
  unfolding status_of
  torn_said less out =
      short_behind ((short_exactly bytes (record_reader (last_of rs)) (record_fields (last_of rs)) start (same_fields (last_of rs)) u.inside).1 out)
      ∙ rw (ne_eqb start len (λ e. omega arith), length_placed) refl

  whole_said : start ≡ len → scan_of rule slice len ≡ whole (length rs) len
  unfolding status_of
  whole_said all =
      let none : drop start bytes ≡ [] = nothing_left start bytes (omega (arith, all, length-take-le len slice fits.0)) in
      short_behind (rw none ((torn_none rs).runs_out start)) ∙ rw (all, eq-eqb len len refl, length_placed) refl

-- SCAN ANSWERS exactly what document 01's survey does
pub scan_exactly : (rule : Rule) (slice : List ℕ) (len : ℕ) (x : ScanResult) → AreBytes slice → (scan_of rule slice len ≡ x) ↔ Scanned rule slice len x
scan_exactly rule slice len x are_bytes = (λ h. rw h at (answered (leb len (min (length slice) max_length)) refl), λ s. said s)
  where
    answered : (t : Bool) → leb len (min (length slice) max_length) ≡ t → Scanned rule slice len (scan_of rule slice len)
    answered true e =
        let k = leb-true len (min (length slice) max_length) e in
        scanned_of rule slice len are_bytes (omega arith, omega arith)
    answered false e =
        let k = leb-false len (min (length slice) max_length) e in
        let far : (length slice < len) ⊎ (65_536 < len) = by_order len (length slice) (λ fits. inr (omega arith)) (λ far. inl far) in
        rw ((length_exactly rule slice len).1 far) (too_long far)

    said : {x : ScanResult} → Scanned rule slice len x → scan_of rule slice len ≡ x
    said (too_long far) = (length_exactly rule slice len).1 far
    said (refused_field {records} {start} {n} {p} fits u f) = field_said rule slice len fits records start u n p f
    said (broken_rule {records} r {start} {next} fits u one breaks) = rule_said rule slice len fits records start u r next one breaks
    said (whole_records {records} fits u) = whole_said rule slice len fits records len u refl
    said (torn_record {records} {start} fits u less out) = torn_said rule slice len fits records start u less out
