-- The pass over a journal's records: after some of them the count, the last record and what is asked of record i are those of the
-- records passed. The start, one record more, and the two ways to end. Assumes nothing.
use mathlib.Core.Path.{◌≡◌, refl, sym, ap, ◌∙◌}
use Prim.Native.Nat.{ℕ, zero, suc, ◌+◌, ◌-◌, ◌≤◌, ◌<◌}
use mathlib.Core.List.{List, [], ◌∷◌, ◌++◌}
use mathlib.Core.Bool.{Bool, true, false}
use native.Mathlib.Omega.{arith}
use Rattle.std.specs.Prelude.{Result, Ok, Err, Option, Some, None}
use lib.ListN.{length, drop, length-append}
use lib.Dec.{eqb}
use borrow.Author.Tests.{eqb-true, eqb-false}
use Rattle.journal_spec.specs.Reader.{Found, found, fault, short}
use Rattle.journal_spec.specs.Record.{Record, last_of}
use Rattle.journal_spec.specs.Scan.{Placed, records_of, record_at}
use Rattle.journal_spec.proofs.RecordsLoop.{Going, going_start, going_short, going_fault, going_found, last_placed}
use Rattle.journal.specs.Told.{Numbered, Stopped, ran_out, refused, kept_of}
use Rattle.journal.specs.declared.profile.Rule.{Rule}
use Rattle.journal.specs.declared.record.Head.{Head}
use Rattle.journal.specs.declared.record.Entry.{Entry}
use Rattle.journal.specs.declared.contents.Shown.{Shown}
use Rattle.journal.specs.Handed.{as_rule}
use Rattle.journal.proofs.Stopping.{halted, halted_found}
use Rattle.journal.specs.Records.{as_last, entry_of, record_read, record_by}
use Rattle.journal.specs.Contents.{head_of, shown_of, shown_at, shown_next, contents_read, records_read}

-- ---- the record's answer, taken back

record FoundRecord (f : Found Record) (e : Entry) : Type 0 where
  pub content : Record
  pub next : ℕ
  pub rest : List ℕ
  pub entry : e ≡ entry_of content next
  pub ran : f ≡ found content next rest

read_found : (f : Found Record) (e : Entry) → Ok e ≡ record_read f → FoundRecord f e
unfolding kept_of
read_found (found r next rest) e h =
    let same : e ≡ entry_of r next = cc in record { content = r; next = next; rest = rest; entry = same; ran = refl }
read_found (fault n p) e h = let z : ◌≡◌ {A = ℕ} 0 1 = cc in absurd (omega arith)
read_found short e h = let z : ◌≡◌ {A = ℕ} 0 1 = cc in absurd (omega arith)

-- ---- one record more

shown_this : (ps : List Placed) (p : Placed) (i : ℕ) → length ps ≡ i → shown_at (ps ++ p ∷ []) i ≡ Some (shown_of p)
unfolding shown_at
shown_this [] p zero h = refl
shown_this [] p (suc i) h = absurd (omega arith)
shown_this (q ∷ ps) p zero h = absurd (omega arith)
shown_this (q ∷ ps) p (suc i) h = shown_this ps p i (omega arith)

shown_other : (ps : List Placed) (p : Placed) (i : ℕ) → (length ps ≡ i → ⊥) → shown_at (ps ++ p ∷ []) i ≡ shown_at ps i
unfolding shown_at
shown_other [] p zero h = absurd (h refl)
shown_other [] p (suc i) h = refl
shown_other (q ∷ ps) p zero h = refl
shown_other (q ∷ ps) p (suc i) h = shown_other ps p i (λ e. h (ap suc e))

shown_by : (ps : List Placed) (r : Record) (at next i : ℕ) (this : Bool) → eqb (length ps) i ≡ this
    → shown_next (shown_at ps i) this at (entry_of r next) ≡ shown_at (ps ++ record { content = r; start = at; size = next - at } ∷ []) i
unfolding shown_next entry_of shown_of
shown_by ps r at next i true e = sym (shown_this ps (record { content = r; start = at; size = next - at }) i (eqb-true (length ps) i e))
shown_by ps r at next i false e = sym (shown_other ps (record { content = r; start = at; size = next - at }) i (eqb-false (length ps) i e))

-- ---- the loop

-- the pass has read the records ps, which take the bytes up to the place `at`
pub record Counting (rule : Rule) (b : List ℕ) (i records at : ℕ) (last : Head) (shown : Option Shown) : Type 0 where
  pub ps : List Placed
  pub going : Going (as_rule rule) b ps at
  pub count : records ≡ length ps
  pub head : last ≡ head_of (last_of (records_of ps))
  pub seen : shown ≡ shown_at ps i

pub counting_start : (rule : Rule) (b : List ℕ) (i : ℕ)
    → Counting rule b i 0 0 (record { form = 0; day = 0 }) None
unfolding head_of last_of records_of shown_at
counting_start rule b i = record { ps = []; going = going_start (as_rule rule) b; count = refl; head = refl; seen = refl }

-- after one record more
pub record Counted (rule : Rule) (b : List ℕ) (i records at : ℕ) (shown : Option Shown) (e : Entry) : Type 0 where
  pub later : at < e.next
  pub there : e.next ≤ length b
  pub counting : Counting rule b i (records + 1) e.next (record { form = e.form; day = e.day }) (shown_next shown (eqb records i) at e)

module _ (rule : Rule) (b : List ℕ) (i records at : ℕ) (last : Head) (shown : Option Shown) (g : Counting rule b i records at last shown)
    (x : Result Entry Stopped) (read : x ≡ record_by rule last at b) where
  ran : x ≡ record_read (record_at (as_rule rule) (last_of (records_of g.ps)) at (drop at b))
  unfolding record_by as_last head_of
  ran = read ∙ ap (λ (h : Head). record_read (record_at (as_rule rule) (as_last h) at (drop at b))) g.head

  pub counting_short : x ≡ Err ran_out → Ok (record { records = records; committed = at; last = last; shown = shown }) ≡ records_read i (as_rule rule) b
  unfolding records_read contents_read halted
  counting_short told =
      let e = going_short (as_rule rule) b g.ps at g.going
      (halted_found entry_of (record_at (as_rule rule) (last_of (records_of g.ps)) at (drop at b)) ran_out (sym told ∙ ran)) in
      rw (e, g.count, g.head, g.seen)

  pub counting_refused : (f : Numbered) → x ≡ Err (refused f) → Err f ≡ records_read i (as_rule rule) b
  unfolding records_read contents_read halted
  counting_refused f told =
      let e = going_fault (as_rule rule) b g.ps at g.going f.number f.place
      (halted_found entry_of (record_at (as_rule rule) (last_of (records_of g.ps)) at (drop at b)) (refused f) (sym told ∙ ran)) in
      rw e

  -- a record of this content and place after it
  counted_record : (r : Record) (next : ℕ) (rest : List ℕ)
      → record_at (as_rule rule) (last_of (records_of g.ps)) at (drop at b) ≡ found r next rest → Counted rule b i records at shown (entry_of r next)
  unfolding entry_of head_of
  counted_record r next rest h =
      let f = going_found (as_rule rule) b g.ps at g.going r next rest h in
      let p : Placed = record { content = r; start = at; size = next - at } in
      record {
        later = f.later;
        there = f.there;
        counting = record {
          ps = g.ps ++ p ∷ [];
          going = f.going;
          count = rw length-append (omega (arith, g.count));
          head = ap head_of (sym (last_placed g.ps p));
          seen = rw (g.seen, g.count) (shown_by g.ps r at next i (eqb (length g.ps) i) refl);
        };
      }

  pub counting_more : (e : Entry) → x ≡ Ok e → Counted rule b i records at shown e
  counting_more e told =
      let f = read_found (record_at (as_rule rule) (last_of (records_of g.ps)) at (drop at b)) e (sym told ∙ ran) in
      rw f.entry (counted_record f.content f.next f.rest f.ran)
