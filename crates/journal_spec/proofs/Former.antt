-- Journals from before form 2, and the reader from before it. Whatever the bytes, that reader and the journal's own hold the same of them, or
-- it stops at a form 2 with refusal 2; and where a form 2 follows records of form 1 it stops there. Scan, both calls of reading and the
-- listing are functions of what is held, so that records already written read as before. Assumes nothing.
use mathlib.Core.Path.{◌≡◌, refl, sym, ap, ◌∙◌}
use mathlib.Core.Logic.{◌⊎◌, inl, inr, ⊎_elim}
use Prim.Native.Nat.{ℕ, zero, suc, ◌+◌, ◌-◌, ◌≤◌, ◌<◌, min}
use mathlib.Core.List.{List, [], ◌∷◌, ◌++◌, append_assoc}
use mathlib.Core.Bool.{Bool, true, false}
use native.Mathlib.Omega.{arith}
use native.Mathlib.Nat.{add-zero, add_assoc, zero-add, add-sub_cancel_left}
use lib.ListN.{length, take, drop, length-append}
use lib.Seq.{drop-drop, length-take-le}
use lib.Dec.{leb, eqb}
use borrow.Author.Tests.{le-leb, eqb-true, eqb-false, eq-eqb, ne_eqb}
use Rattle.facts.proofs.Orders.{by_order}
use Rattle.limit.specs.Formula.{plain_form, sample_form}
use Rattle.limit.specs.Answer.{form_refusal}
use Rattle.limit.specs.Limit.{form_known}
use Rattle.limit.proofs.InRange as R
use Rattle.journal_spec.specs.Bytes.{value_of, number_at, joined}
use Rattle.journal_spec.specs.Refusals.{unless, first_of}
use Rattle.journal_spec.specs.Reader.{Reader, done, field, Found, found, fault, short, run}
use Rattle.journal_spec.specs.Section.{section}
use Rattle.journal_spec.specs.Record.{Record, Last, last_of, judge_form, judge_day, name_section, chance_section, time_section, limit_section}
use Rattle.journal_spec.specs.Record.{record_reader, record_bytes, records_bytes}
use Rattle.journal_spec.specs.Stages.{day_stage, name_stage, chance_stage, time_stage, limit_stage}
use Rattle.journal_spec.specs.Profile.{plain, keeps}
use Rattle.journal_spec.specs.Scan.{max_length, Placed, records_of, Contents, standing, faulty, contents_from, contents_of}
use Rattle.journal_spec.specs.Ranges.{AllRanges}
use Rattle.journal_spec.specs.Former.{held_from, held_by, former_form, former_reader, former_contents, StopsAtSample}
use Rattle.journal_spec.proofs.Judging.{unless_none}
use Rattle.journal_spec.proofs.Reading.{field_short, field_good, field_fault, field_cases, field_found, then_found, run_left}
use Rattle.journal_spec.proofs.Records.{by_stages}
use Rattle.journal_spec.proofs.Ranged.{reads_back}
use Rattle.journal_spec.proofs.Scanning.{last_of_snoc, records_of_snoc, records_count, at_found, at_fault, at_short}

-- ---- one record

-- two refusals that agree on the value that stands
same_run : {A : Type 0} (w : ℕ) (refusal other : ℕ → ℕ) (next : ℕ → Reader A) (at : ℕ) (bs : List ℕ)
    → refusal (value_of (take w bs)) ≡ other (value_of (take w bs)) → run (field w refusal next) at bs ≡ run (field w other next) at bs
same_run w refusal other next at bs agree =
    field_cases w refusal next at bs (λ f. f ≡ run (field w other next) at bs)
    (λ few. sym (field_short w other next at bs few))
    (λ n enough bad. sym (field_fault w other next at bs n enough (sym agree ∙ bad)))
    (λ enough good. sym (field_good w other next at bs enough (sym agree ∙ good)))

-- after records of form 1 the two readers judge every form but 2 alike
alike : (last : Last) (v : ℕ) → last.form ≤ plain_form → (v ≡ sample_form → ⊥) → former_form v ≡ judge_form last v
unfolding former_form judge_form form_known unless first_of
alike last v low other =
    by_order plain_form v
    (λ h. by_order v plain_form
    (λ k. rw (eq-eqb v plain_form (omega arith), R.inside plain_form sample_form v h (omega arith), le-leb last.form v (omega arith)) refl)
    (λ k. by_order v sample_form (λ l. absurd (other (omega arith)))
    (λ l. rw (ne_eqb v plain_form (λ e. omega arith), R.above plain_form sample_form v l) refl)))
    (λ h. rw (ne_eqb v plain_form (λ e. omega arith), R.below plain_form sample_form v h) refl)

-- the form that was read is the record's
form_of : (last : Last) (form at : ℕ) (bs : List ℕ) (r : Record) (e : ℕ) (rest : List ℕ)
    → run (day_stage last form) at bs ≡ found r e rest → r.form ≡ form
unfolding day_stage name_stage chance_stage time_stage limit_stage run
form_of last form at bs r e rest h =
    let day = field_found 2 (judge_day last) (name_stage form) at bs r e rest h in
    let d : ℕ = value_of (take 2 bs) in
    let name = then_found (section name_section) (chance_stage form d) (at + 2) (drop 2 bs) r e rest day.goes in
    let n : List ℕ = name.first in
    let chances = then_found (section chance_section) (time_stage form d n) name.place name.rest r e rest name.goes in
    let c : List ℕ = chances.first in
    let times = then_found (section time_section) (limit_stage form d n c) chances.place chances.rest r e rest chances.goes in
    let t : List ℕ = times.first in
    let made : List ℕ → Record = λ ls. record { form = form; day = d; name = n; chances = c; times = t; limits = ls } in
    let limits = then_found (section (limit_section form c t)) (λ ls. done (made ls)) times.place times.rest r e rest times.goes in
    same (made limits.first) limits.place limits.rest limits.goes
  where
    same : (x : Record) (p : ℕ) (left : List ℕ) → run (done x) p left ≡ found r e rest → r.form ≡ x.form
    same x p left h = unfold run in let a : x ≡ r = cc in ap (λ (y : Record). y.form) (sym a)

module _ (last : Last) (at : ℕ) (bs : List ℕ) where
  pub former_same : last.form ≤ plain_form → (value_of (take 2 bs) ≡ sample_form → ⊥) → run (former_reader last) at bs ≡ run (record_reader last) at bs
  unfolding former_reader
  former_same low other =
      rw (by_stages last) (same_run 2 former_form (judge_form last) (day_stage last) at bs (alike last (value_of (take 2 bs)) low other))

  -- form 2 is refused at its first byte
  pub former_stops : 2 ≤ length bs → value_of (take 2 bs) ≡ sample_form → run (former_reader last) at bs ≡ fault form_refusal at
  unfolding former_reader former_form unless
  former_stops enough e = field_fault 2 former_form (day_stage last) at bs 1 enough (rw e refl)

  -- bytes that run out in the form run out for both
  former_short : length bs < 2 → run (former_reader last) at bs ≡ run (record_reader last) at bs
  unfolding former_reader
  former_short few = field_short 2 former_form (day_stage last) at bs few ∙ sym (rw (by_stages last) (field_short 2 (judge_form last) (day_stage last) at bs few))

  -- a record that it finds has form 1
  former_found : (r : Record) (e : ℕ) (rest : List ℕ) → run (former_reader last) at bs ≡ found r e rest → r.form ≡ plain_form
  unfolding former_reader former_form
  former_found r e rest h =
      let f = field_found 2 former_form (day_stage last) at bs r e rest h in
      form_of last (value_of (take 2 bs)) (at + 2) (drop 2 bs) r e rest f.goes
      ∙ eqb-true (value_of (take 2 bs)) plain_form (unless_none (eqb (value_of (take 2 bs)) plain_form) 1 f.good)

  -- what a record that the journal's own reader finds begins with
  own_form : (r : Record) (e : ℕ) (rest : List ℕ) → run (record_reader last) at bs ≡ found r e rest → r.form ≡ value_of (take 2 bs)
  own_form r e rest h =
      let f = field_found 2 (judge_form last) (day_stage last) at bs r e rest (rw (← by_stages last) h) in
      form_of last (value_of (take 2 bs)) (at + 2) (drop 2 bs) r e rest f.goes

-- ---- a journal, whatever its bytes

-- what the two make of bytes of b: the same, or the former stops at a form 2
pub record Compared (b : List ℕ) (former own : Contents) : Type 0 where
  pub is : (former ≡ own) ⊎ ((place : ℕ) × (number_at 2 place b ≡ sample_form) × (former ≡ faulty form_refusal place))

module _ (more : ℕ) (b : List ℕ) where
  -- what is said of the records after one more
  abbrev Later : Type 0
  Later = (ps : List Placed) (at : ℕ) → (last_of (records_of ps)).form ≤ plain_form
      → Compared b (held_from former_reader more ps at (drop at b)) (contents_from plain more ps at (drop at b))

  module _ (later : Later) (ps : List Placed) (at : ℕ) where
    by_found : (f : Found Record) → run (former_reader (last_of (records_of ps))) at (drop at b) ≡ f
        → run (record_reader (last_of (records_of ps))) at (drop at b) ≡ f
        → Compared b (held_from former_reader (suc more) ps at (drop at b)) (contents_from plain (suc more) ps at (drop at b))
    unfolding held_from contents_from
    by_found (fault n p) e d =
        rw (e, held_from) (rw (at_fault plain (last_of (records_of ps)) at (drop at b) n p d, contents_from) (record { is = inl refl }))
    by_found short e d = rw (e, held_from) (rw (at_short plain (last_of (records_of ps)) at (drop at b) d, contents_from) (record { is = inl refl }))
    by_found (found r next rest) e d =
        let l = run_left (former_reader (last_of (records_of ps))) at (drop at b) r next rest e in
        let p : Placed = record { content = r; start = at; size = next - at } in
        let way : at + (next - at) ≡ next = omega (arith, l.later) in
        let left : rest ≡ drop next b = l.same ∙ drop-drop (next - at) at b ∙ ap (λ (k : ℕ). drop k b) way in
        let low : (last_of (records_of (ps ++ p ∷ []))).form ≤ plain_form =
        rw (records_of_snoc ps p, last_of_snoc (records_of ps) r) (omega (arith, former_found (last_of (records_of ps)) at (drop at b) r next rest e)) in
        let own = at_found plain (last_of (records_of ps)) at (drop at b) r next rest d (unfold keeps in refl) in
        rw (e, held_from) (rw (own, contents_from) (rw left (later (ps ++ p ∷ []) next low)))

    one_more : (last_of (records_of ps)).form ≤ plain_form
        → Compared b (held_from former_reader (suc more) ps at (drop at b)) (contents_from plain (suc more) ps at (drop at b))
    one_more low =
        let last = last_of (records_of ps) in
        let v = value_of (take 2 (drop at b)) in
        by_order 2 (length (drop at b))
        (λ enough. by_form enough (eqb v sample_form) refl)
        (λ few. by_found (run (record_reader last) at (drop at b)) (former_short last at (drop at b) few) refl)
      where
        by_form : 2 ≤ length (drop at b) → (t : Bool) → eqb (value_of (take 2 (drop at b))) sample_form ≡ t
            → Compared b (held_from former_reader (suc more) ps at (drop at b)) (contents_from plain (suc more) ps at (drop at b))
        by_form enough true e = unfold held_from number_at in
            let two = eqb-true (value_of (take 2 (drop at b))) sample_form e in
            record { is = inr (at, two, rw (former_stops (last_of (records_of ps)) at (drop at b) enough two, held_from) refl) }
        by_form enough false e =
            by_found (run (record_reader (last_of (records_of ps))) at (drop at b))
            (former_same (last_of (records_of ps)) at (drop at b) low (eqb-false (value_of (take 2 (drop at b))) sample_form e)) refl

compared : (more : ℕ) (b : List ℕ) (ps : List Placed) (at : ℕ) → (last_of (records_of ps)).form ≤ plain_form
    → Compared b (held_from former_reader more ps at (drop at b)) (contents_from plain more ps at (drop at b))
compared zero b ps at low = unfold held_from contents_from in record { is = inl refl }
compared (suc more) b ps at low = one_more more b (compared more b) ps at low

-- a slice whose length is good, and one whose length is not
former_fits : (slice : List ℕ) (len : ℕ) → leb len (min (length slice) max_length) ≡ true
    → former_contents slice len ≡ held_from former_reader len [] 0 (take len slice)
unfolding held_by former_contents
former_fits slice len e = rw e refl

own_fits : (slice : List ℕ) (len : ℕ) → leb len (min (length slice) max_length) ≡ true
    → contents_of plain slice len ≡ contents_from plain len [] 0 (take len slice)
unfolding contents_of
own_fits slice len e = rw e refl

both_long : (slice : List ℕ) (len : ℕ) → leb len (min (length slice) max_length) ≡ false → former_contents slice len ≡ contents_of plain slice len
unfolding held_by former_contents contents_of
both_long slice len e = rw e refl

no_records : (last_of (records_of [])).form ≤ plain_form
unfolding last_of records_of
no_records = omega arith

-- Whatever the bytes: the former reader holds what the journal's own does, or it stops at a form 2.
pub former_journal : (slice : List ℕ) (len : ℕ) → (former_contents slice len ≡ contents_of plain slice len) ⊎ StopsAtSample slice len
former_journal slice len = go (leb len (min (length slice) max_length)) refl
  where
    go : (t : Bool) → leb len (min (length slice) max_length) ≡ t → (former_contents slice len ≡ contents_of plain slice len) ⊎ StopsAtSample slice len
    go false e = inl (both_long slice len e)
    go true e =
        ⊎_elim
        (λ same. inl (former_fits slice len e ∙ same ∙ sym (own_fits slice len e)))
        (λ w. inr (record { place = w.0; stands = w.1; refused = former_fits slice len e ∙ w.2 }))
        (compared len (take len slice) [] 0 no_records).is

-- What was read before form 2 reads the same: the same records at the same places, with the same committed length.
pub reads_as_before : (slice : List ℕ) (len : ℕ) (ps : List Placed) (committed : ℕ)
    → former_contents slice len ≡ standing ps committed → contents_of plain slice len ≡ standing ps committed
reads_as_before slice len ps committed h =
    ⊎_elim
    (λ same. sym same ∙ h)
    (λ s. let z : ◌≡◌ {A = Contents} (faulty form_refusal s.place) (standing ps committed) = sym s.refused ∙ h in
    let one : ◌≡◌ {A = ℕ} 0 1 = cc in absurd (omega arith))
    (former_journal slice len)

-- ---- a form 2 after records of form 1

-- each record is of form 1
abbrev pub AllPlain : List Record → Type 0
AllPlain [] = Unit {0}
AllPlain (r ∷ rs) = (r.form ≡ plain_form) × AllPlain rs

module _ (rest : List ℕ) (enough : 2 ≤ length rest) (two : value_of (take 2 rest) ≡ sample_form) where
  stops_from : (more : ℕ) (ps : List Placed) (rs : List Record) (at : ℕ) → AllRanges (records_of ps) rs → AllPlain rs
      → (last_of (records_of ps)).form ≤ plain_form → length rs < more
      → held_from former_reader more ps at (records_bytes rs ++ rest) ≡ faulty form_refusal (at + length (records_bytes rs))
  unfolding held_from records_bytes joined
  stops_from zero ps rs at f a low h = absurd (omega arith)
  stops_from (suc more) ps [] at f a low h = rw (former_stops (last_of (records_of ps)) at rest enough two, held_from) (rw add-zero refl)
  stops_from (suc more) ps (r ∷ rs) at f a low h =
      let last = last_of (records_of ps) in
      let n : ℕ = length (record_bytes r) in
      let p : Placed = record { content = r; start = at; size = n } in
      let bs : List ℕ = record_bytes r ++ (records_bytes rs ++ rest) in
      let read = (reads_back last r f.0).on at (records_bytes rs ++ rest) in
      let one = own_form last at bs r (at + n) (records_bytes rs ++ rest) read in
      let former = former_same last at bs low (λ e. omega (arith, one, a.0, e)) ∙ read in
      let snoc : records_of (ps ++ p ∷ []) ≡ records_of ps ++ r ∷ [] = records_of_snoc ps p in
      let lower : (last_of (records_of (ps ++ p ∷ []))).form ≤ plain_form = rw (snoc, last_of_snoc (records_of ps) r) (omega (arith, a.0)) in
      rw append_assoc
      (rw (former, held_from)
      (rw (add-sub_cancel_left at n)
      (stops_from more (ps ++ p ∷ []) rs (at + n) (rw snoc f.1) a.1 lower (omega arith)
      ∙ rw (length-append, add_assoc) refl)))

  -- A journal of form 1 records that goes on with form 2: the former reader refuses it by 2 at that record's first byte.
  pub former_refuses : (slice : List ℕ) (len : ℕ) (rs : List Record) → len ≤ length slice → len ≤ max_length → take len slice ≡ records_bytes rs ++ rest
      → AllRanges [] rs → AllPlain rs → former_contents slice len ≡ faulty form_refusal (length (records_bytes rs))
  unfolding records_of
  former_refuses slice len rs fits most bytes keeps alone =
      let n : len ≡ length (records_bytes rs) + length rest =
      sym (length-take-le len slice fits) ∙ ap length bytes ∙ length-append (records_bytes rs) rest in
      former_fits slice len (le-leb len (min (length slice) max_length) (omega arith))
      ∙ rw bytes
      (stops_from len [] rs 0 keeps alone no_records (omega (arith, n, records_count [] rs keeps)) ∙ rw zero-add refl)
