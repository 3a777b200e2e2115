-- What scan finds in records end to end with a torn tail after them: those records, each in its place, and their length.
-- Assumes nothing.
use mathlib.Core.Path.{◌≡◌, refl, sym, ◌∙◌}
use Prim.Native.Nat.{ℕ, zero, suc, ◌+◌, ◌-◌, ◌≤◌, ◌<◌, min}
use mathlib.Core.List.{List, [], ◌∷◌, ◌++◌, append_assoc, append-nil, map-append}
use mathlib.Core.Bool.{Bool, true, false, cond}
use mathlib.Core.Option.{Option, none, some}
use native.Mathlib.Omega.{arith}
use native.Mathlib.Nat.{add-zero, add_assoc, zero-add, add-sub_cancel_left}
use lib.ListN.{length, take, length-append}
use lib.Seq.{append_snoc}
use borrow.Author.Tests.{le-leb, lt-leb}
use Rattle.facts.proofs.Tests.{by_test_lem}
use Rattle.limit.specs.Formula.{sample_form}
use Rattle.journal_spec.specs.Bytes.{joined}
use Rattle.journal_spec.specs.Refusals.{length_refusal, profile_refusal}
use Rattle.journal_spec.specs.Reader.{Found, found, fault, short, run}
use Rattle.journal_spec.specs.Record.{Record, Last, last_of, record_reader, record_bytes, records_bytes}
use Rattle.journal_spec.specs.Scan.{max_length, Placed, records_of, Contents, standing, faulty, judged, record_at, contents_from, contents_of}
use Rattle.journal_spec.specs.Profile.{Rule, plain, keeps}
use Rattle.journal_spec.specs.Model.{break_from}
use Rattle.journal_spec.specs.Ranges.{RecordRanges, AllRanges}
use Rattle.journal_spec.proofs.Reading.{field_short, found_not_fault, found_not_short, short_not_fault}
use Rattle.journal_spec.proofs.Ranged.{reads_back, encoding_length}
use Rattle.journal_spec.proofs.Places.{placed_from}

-- ---- journals

-- a torn tail after some records: in it the bytes run out before a record is whole, with no refusal in the fields that stand
pub record Torn (before : List Record) (tail : List ℕ) : Type 0 where
  pub runs_out : (at : ℕ) → run (record_reader (last_of before)) at tail ≡ short

pub last_of_snoc : (rs : List Record) (r : Record) → last_of (rs ++ r ∷ []) ≡ record { form = r.form; day = r.day }
unfolding last_of
last_of_snoc [] r = refl
last_of_snoc (s ∷ []) r = refl
last_of_snoc (s ∷ t ∷ rs) r = last_of_snoc (t ∷ rs) r

-- a record in its place is in range
pub in_ranges : (before front : List Record) (r : Record) (back : List Record) → AllRanges before (front ++ r ∷ back) → (last : Last) × RecordRanges last r
in_ranges before [] r back f = (last_of before, f.0)
in_ranges before (s ∷ front) r back f = in_ranges (before ++ s ∷ []) front r back f.1

pub follow_snoc : (before rs : List Record) (r : Record) → AllRanges before rs → RecordRanges (last_of (before ++ rs)) r → AllRanges before (rs ++ r ∷ [])
follow_snoc before [] r f g = (rw append-nil at g, tt)
follow_snoc before (s ∷ rs) r f g = (f.0, follow_snoc (before ++ s ∷ []) rs r f.1 (rw append_snoc g))

-- what may stand before a new record is of form 1 or 2
pub last_form_lem : (before rs : List Record) → AllRanges before rs → (last_of before).form ≤ sample_form → (last_of (before ++ rs)).form ≤ sample_form
last_form_lem before [] f h = rw append-nil h
last_form_lem before (r ∷ rs) f h =
    rw (← append_snoc before r rs)
    (last_form_lem (before ++ r ∷ []) rs f.1 (rw (last_of_snoc before r) f.0.form.1))

pub torn_none : (before : List Record) → Torn before []
torn_none before = record { runs_out = λ at. unfold record_reader in field_short 2 _ _ at [] (omega arith) }

-- ---- bytes and places of records end to end

pub records_snoc : (rs : List Record) (r : Record) → records_bytes (rs ++ r ∷ []) ≡ records_bytes rs ++ record_bytes r
unfolding records_bytes joined
records_snoc [] r = append-nil (record_bytes r)
records_snoc (s ∷ rs) r = rw (records_snoc rs r) (sym (append_assoc (record_bytes s) (records_bytes rs) (record_bytes r)))

-- a journal has no more records than bytes
pub records_count : (before rs : List Record) → AllRanges before rs → length rs ≤ length (records_bytes rs)
unfolding records_bytes joined
records_count before [] f = omega arith
records_count before (r ∷ rs) f =
    rw length-append (omega (arith, encoding_length (last_of before) r f.0, records_count (before ++ r ∷ []) rs f.1))

pub records_of_snoc : (ps : List Placed) (p : Placed) → records_of (ps ++ p ∷ []) ≡ records_of ps ++ p.content ∷ []
unfolding records_of
records_of_snoc ps p = map-append (λ (q : Placed). q.content) ps (p ∷ [])

-- ---- a record by a rule

module _ (rule : Rule) (last : Last) (at : ℕ) (bs : List ℕ) where
  pub at_short : run (record_reader last) at bs ≡ short → record_at rule last at bs ≡ short
  unfolding record_at judged
  at_short h = rw h refl

  pub at_fault : (n p : ℕ) → run (record_reader last) at bs ≡ fault n p → record_at rule last at bs ≡ fault n p
  unfolding record_at judged
  at_fault n p h = rw h refl

  pub at_found : (r : Record) (e : ℕ) (rest : List ℕ) → run (record_reader last) at bs ≡ found r e rest → keeps rule r ≡ true
      → record_at rule last at bs ≡ found r e rest
  unfolding record_at judged
  at_found r e rest h k = rw h (rw k refl)

  pub at_broken : (r : Record) (e : ℕ) (rest : List ℕ) → run (record_reader last) at bs ≡ found r e rest → keeps rule r ≡ false
      → record_at rule last at bs ≡ fault profile_refusal at
  unfolding record_at judged
  at_broken r e rest h k = rw h (rw k refl)

  -- what was found stands there, and keeps the rule
  pub found_at : (r : Record) (e : ℕ) (rest : List ℕ) → record_at rule last at bs ≡ found r e rest
      → (run (record_reader last) at bs ≡ found r e rest) × (keeps rule r ≡ true)
  unfolding record_at
  found_at r e rest h = go (run (record_reader last) at bs) h
    where
      by_rule : (b : Bool) (s : Record) (i : ℕ) (left : List ℕ) → keeps rule s ≡ b
          → cond b (found s i left) (fault profile_refusal at) ≡ found r e rest → (found s i left ≡ found r e rest) × (keeps rule r ≡ true)
      by_rule true s i left k h = let same : s ≡ r = cc in (h, rw same at k)
      by_rule false s i left k h = absurd (found_not_fault h)

      go : (f : Found Record) → judged rule at f ≡ found r e rest → (f ≡ found r e rest) × (keeps rule r ≡ true)
      go (found s i left) h = by_rule (keeps rule s) s i left refl (unfold judged in h)
      go (fault n p) h = unfold judged in absurd (found_not_fault h)
      go short h = unfold judged in absurd (found_not_short h)

  pub short_at : record_at rule last at bs ≡ short → run (record_reader last) at bs ≡ short
  unfolding record_at
  short_at h = go (run (record_reader last) at bs) h
    where
      by_rule : (b : Bool) (s : Record) (i : ℕ) (left : List ℕ) → cond b (found s i left) (fault profile_refusal at) ≡ short → found s i left ≡ short
      by_rule true s i left h = h
      by_rule false s i left h = absurd (short_not_fault h)

      go : (f : Found Record) → judged rule at f ≡ short → f ≡ short
      go (found s i left) h = by_rule (keeps rule s) s i left (unfold judged in h)
      go (fault n p) h = unfold judged in h
      go short h = refl

-- ---- the scan

-- the records stand, or one of them breaks the rule
unfoldable pub unless_broken : Option ℕ → Contents → Contents
unless_broken none x = x
unless_broken (some p) x = faulty profile_refusal p

pub contents_from_lem : (rule : Rule) (more : ℕ) (ps : List Placed) (rs : List Record) (at : ℕ) (tail : List ℕ)
    → AllRanges (records_of ps) rs → Torn (records_of ps ++ rs) tail → length rs ≤ more
    → contents_from rule more ps at (records_bytes rs ++ tail)
    ≡ unless_broken (break_from rule at rs) (standing (ps ++ placed_from at rs) (at + length (records_bytes rs)))
unfolding contents_from records_bytes joined placed_from break_from unless_broken
contents_from_lem rule zero ps [] at tail f t h = rw (append-nil, add-zero)
contents_from_lem rule zero ps (r ∷ rs) at tail f t h = absurd (omega arith)
contents_from_lem rule (suc more) ps [] at tail f t h =
    rw (at_short rule (last_of (records_of ps)) at tail ((rw append-nil at t).runs_out at), contents_from) (rw (append-nil, add-zero))
contents_from_lem rule (suc more) ps (r ∷ rs) at tail f t h =
    let n : ℕ = length (record_bytes r) in
    let p : Placed = record { content = r; start = at; size = n } in
    let read = (reads_back (last_of (records_of ps)) r f.0).on at (records_bytes rs ++ tail) in
    let snoc : records_of (ps ++ p ∷ []) ≡ records_of ps ++ r ∷ [] = records_of_snoc ps p in
    by_test_lem (keeps rule r)
    (λ k.
    let one = at_found rule (last_of (records_of ps)) at (record_bytes r ++ (records_bytes rs ++ tail)) r (at + n) (records_bytes rs ++ tail) read k in
    rw (append_assoc, k)
    (rw (one, contents_from)
    (rw (add-sub_cancel_left at n)
    (contents_from_lem rule more (ps ++ p ∷ []) rs (at + n) tail (rw snoc f.1) (rw (snoc, append_snoc) t) (omega arith)
    ∙ rw (append_snoc, length-append, add_assoc) refl))))
    (λ k.
    let one = at_broken rule (last_of (records_of ps)) at (record_bytes r ++ (records_bytes rs ++ tail)) r (at + n) (records_bytes rs ++ tail) read k in
    rw (append_assoc, k) (rw (one, contents_from) refl))

-- a slice that holds records end to end and a torn tail, up to a length
pub contents_of_lem : (rule : Rule) (slice : List ℕ) (len : ℕ) (rs : List Record) (tail : List ℕ) → len ≤ length slice → len ≤ max_length
    → take len slice ≡ records_bytes rs ++ tail → len ≡ length (records_bytes rs ++ tail) → AllRanges [] rs → Torn rs tail
    → contents_of rule slice len ≡ unless_broken (break_from rule 0 rs) (standing (placed_from 0 rs) (length (records_bytes rs)))
unfolding contents_of records_of
contents_of_lem rule slice len rs tail fits most bytes n f t =
    rw (le-leb len (min (length slice) max_length) (omega arith), bytes)
    (contents_from_lem rule len [] rs 0 tail f t (omega (arith, n, length-append (records_bytes rs) tail, records_count [] rs f))
    ∙ rw zero-add refl)

-- every record keeps the plain rule
pub plain_keeps : (at : ℕ) (rs : List Record) → break_from plain at rs ≡ none
unfolding break_from keeps
plain_keeps at [] = refl
plain_keeps at (r ∷ rs) = plain_keeps (at + length (record_bytes r)) rs

pub plain_contents : (slice : List ℕ) (len : ℕ) (rs : List Record) (tail : List ℕ) → len ≤ length slice → len ≤ max_length
    → take len slice ≡ records_bytes rs ++ tail → len ≡ length (records_bytes rs ++ tail) → AllRanges [] rs → Torn rs tail
    → contents_of plain slice len ≡ standing (placed_from 0 rs) (length (records_bytes rs))
plain_contents slice len rs tail fits most bytes n f t =
    contents_of_lem plain slice len rs tail fits most bytes n f t ∙ rw (plain_keeps 0 rs) (unfold unless_broken in refl)

-- ---- one turn, by what the record's reader finds and what the rule says

module _ (rule : Rule) where
  pub turn_short : (more : ℕ) (ps : List Placed) (at : ℕ) (bs : List ℕ)
      → record_at rule (last_of (records_of ps)) at bs ≡ short → contents_from rule more ps at bs ≡ standing ps at
  unfolding contents_from
  turn_short zero ps at bs h = refl
  turn_short (suc more) ps at bs h = rw (h, contents_from) refl

  pub turn_fault : (more : ℕ) (ps : List Placed) (at : ℕ) (bs : List ℕ) (n p : ℕ)
      → record_at rule (last_of (records_of ps)) at bs ≡ fault n p → 0 < more → contents_from rule more ps at bs ≡ faulty n p
  unfolding contents_from
  turn_fault zero ps at bs n p h pos = absurd (omega arith)
  turn_fault (suc more) ps at bs n p h pos = rw (h, contents_from) refl

  pub turn_found : (more : ℕ) (ps : List Placed) (at : ℕ) (bs : List ℕ) (r : Record) (e : ℕ) (rest : List ℕ)
      → record_at rule (last_of (records_of ps)) at bs ≡ found r e rest → 0 < more
      → contents_from rule more ps at bs ≡ contents_from rule (more - 1) (ps ++ record { content = r; start = at; size = e - at } ∷ []) e rest
  unfolding contents_from
  turn_found zero ps at bs r e rest h pos = absurd (omega arith)
  turn_found (suc more) ps at bs r e rest h pos = let z : suc more - 1 ≡ more = omega arith in rw z (rw (h, contents_from) refl)

  -- ---- the answer

  -- a slice whose length is good
  pub contents_fits : (slice : List ℕ) (len : ℕ) → len ≤ length slice → len ≤ max_length
      → contents_of rule slice len ≡ contents_from rule len [] 0 (take len slice)
  unfolding contents_of
  contents_fits slice len h k = rw (le-leb len (min (length slice) max_length) (omega arith)) refl

  -- one whose length is beyond the slice or the longest journal
  pub contents_long : (slice : List ℕ) (len : ℕ) → min (length slice) max_length < len → contents_of rule slice len ≡ faulty length_refusal 0
  unfolding contents_of
  contents_long slice len h = rw (lt-leb len (min (length slice) max_length) h) refl
