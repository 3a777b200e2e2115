-- The record that the plain reader finds at a place is the one in the places of its sections; where a section does not stand it finds none.
-- Assumes nothing.
use mathlib.Core.Path.{◌≡◌, refl, sym, ap, ◌∙◌}
use Prim.Native.Nat.{ℕ, ◌+◌, ◌*◌, ◌-◌, ◌≤◌, ◌<◌}
use mathlib.Core.List.{List, []}
use mathlib.Core.Bool.{true, false}
use native.Mathlib.Omega.{arith}
use Rattle.std.proofs.Common.{Option, Some, None, is_some}
use lib.ListN.{length, drop}
use borrow.Author.Tests.{le-leb, lt-leb}
use Rattle.facts.proofs.Tests.{true_not_false}
use Rattle.facts.proofs.Orders.{by_order}
use Rattle.journal_spec.specs.Bytes.{number_at}
use Rattle.journal_spec.specs.Reader.{Reader, done, field, found, short, run, then}
use Rattle.journal_spec.specs.Section.{Section, section}
use Rattle.journal_spec.specs.Record.{Record, last_of, judge_form, name_section, chance_section, time_section, limit_section}
use Rattle.journal_spec.specs.Stages.{day_stage, name_stage, chance_stage, time_stage, limit_stage}
use Rattle.journal_spec.proofs.Reading.{after}
use Rattle.journal_spec.proofs.FieldAt.{at_short, at_good}
use Rattle.journal_spec.proofs.Records.{by_stages}
use Rattle.journal_parts.specs.Plain.{unjudged, plain_record_at}
use Rattle.journal_parts.specs.Spans.{form_at, day_at, head_at, span_with, span_at, span_after, name_span, spans_at, all_of, next_of, numbers_of, record_in}
use Rattle.journal_parts.specs.declared.spans.Span.{Span}
use Rattle.journal_parts.specs.declared.spans.Spans.{Spans}
use Rattle.journal_parts.specs.declared.spans.Sections.{Sections}
use Rattle.journal_parts.proofs.Plainly.{plain_then, section_stands, section_short}

-- ---- a section, by whether it stands

module _ (w at : ℕ) (b : List ℕ) where
  pub span_stands : at + 2 + number_at 2 at b * w ≤ length b → span_at w at b ≡ Some (span_with w at (number_at 2 at b))
  unfolding span_at
  span_stands h = rw (le-leb (at + 2 + number_at 2 at b * w) (length b) h) refl

  pub span_beyond : length b < at + 2 + number_at 2 at b * w → span_at w at b ≡ None
  unfolding span_at
  span_beyond h = rw (lt-leb (at + 2 + number_at 2 at b * w) (length b) h) refl

pub head_stands : (at : ℕ) (b : List ℕ) → at + 4 ≤ length b → head_at at b ≡ Some (record { first = at; count = 0; next = at + 4 })
unfolding head_at
head_stands at b h = rw (le-leb (at + 4) (length b) h) refl

pub head_beyond : (at : ℕ) (b : List ℕ) → length b < at + 4 → head_at at b ≡ None
unfolding head_at
head_beyond at b h = rw (lt-leb (at + 4) (length b) h) refl

-- the numbers of a section, none where it does not stand
abbrev numbers_here : ℕ → Option Span → List ℕ → List ℕ
numbers_here w None b = []
numbers_here w (Some s) b = numbers_of w s b

-- ---- how far a record is read

-- What the plain reader finds at a place, by a section: where it stands, all up to its end is read, and k reads what follows.
record Reached (at : ℕ) (b : List ℕ) (s : Option Span) (k : Reader Record) : Type 0 where
  goes : is_some s ≡ true → plain_record_at at b ≡ run (unjudged k) (next_of s) (drop (next_of s) b)
  inside : is_some s ≡ true → next_of s ≤ length b
  none : is_some s ≡ false → plain_record_at at b ≡ short

reached_head : (at : ℕ) (b : List ℕ) → Reached at b (head_at at b) (name_stage (number_at 2 at b) (number_at 2 (at + 2) b))
unfolding plain_record_at unjudged day_stage
reached_head at b =
    by_order (at + 4) (length b)
    (λ h. let start : plain_record_at at b ≡ run (unjudged (field 2 (judge_form (last_of [])) (day_stage (last_of [])))) at (drop at b) =
    ap (λ (r : Reader Record). run (unjudged r) at (drop at b)) (by_stages (last_of [])) in
    let goes = at_good 2 (λ v. 0) (λ v. unjudged (day_stage (last_of []) v)) at b (omega arith) refl in
    let further = at_good 2 (λ v. 0) (λ v. unjudged (name_stage (number_at 2 at b) v)) (at + 2) b (omega arith) refl in
    let four : at + 2 + 2 ≡ at + 4 = omega arith in
    rw (head_stands at b h) (record {
      goes = λ t. start ∙ goes ∙ rw four at further;
      inside = λ t. h;
      none = λ t. absurd (true_not_false t);
    }))
    (λ h. let start : plain_record_at at b ≡ run (unjudged (field 2 (judge_form (last_of [])) (day_stage (last_of [])))) at (drop at b) =
    ap (λ (r : Reader Record). run (unjudged r) at (drop at b)) (by_stages (last_of [])) in
    rw (head_beyond at b h) (record {
      goes = λ t. absurd (true_not_false (sym t));
      inside = λ t. absurd (true_not_false (sym t));
      none = λ t. by_order 2 (length b - at)
          (λ enough.
          start ∙ at_good 2 (λ v. 0) (λ v. unjudged (day_stage (last_of []) v)) at b enough refl
          ∙ at_short 2 (λ v. 0) (λ v. unjudged (name_stage (number_at 2 at b) v)) (at + 2) b (omega arith))
          (λ few. start ∙ at_short 2 (λ v. 0) (λ v. unjudged (day_stage (last_of []) v)) at b few);
    }))

-- one section further
module _ (at : ℕ) (b : List ℕ) (s : Section) (k : List ℕ → Reader Record) where
  on_at : (p : ℕ) → p ≤ length b → plain_record_at at b ≡ run (unjudged (then (section s) k)) p (drop p b)
      → Reached at b (span_at s.width p b) (k (numbers_here s.width (span_at s.width p b) b))
  unfolding numbers_of after
  on_at p inside goes =
      let way = goes ∙ plain_then (section s) k p (drop p b) in
      by_order (p + 2 + number_at 2 p b * s.width) (length b)
      (λ h. rw (span_stands s.width p b h) (record {
        goes = λ t. way ∙ rw (section_stands s p b h) refl;
        inside = λ t. h;
        none = λ t. absurd (true_not_false t);
      }))
      (λ h. rw (span_beyond s.width p b h) (record {
        goes = λ t. absurd (true_not_false (sym t));
        inside = λ t. absurd (true_not_false (sym t));
        none = λ t. way ∙ rw (section_short s p b inside h) refl;
      }))

  reached_on : (before : Option Span) → Reached at b before (then (section s) k)
      → Reached at b (span_after s.width before b) (k (numbers_here s.width (span_after s.width before b) b))
  unfolding span_after
  reached_on (Some before) g = on_at before.next (g.inside refl) (g.goes refl)
  reached_on None g = record {
    goes = λ t. absurd (true_not_false (sym t));
    inside = λ t. absurd (true_not_false (sym t));
    none = λ t. g.none refl;
  }

-- the record at a place with its sections as they are found
record_by : ℕ → Spans → List ℕ → Record
record_by at s b = record {
  form = form_at b at;
  day = day_at b at;
  name = numbers_here 1 s.name b;
  chances = numbers_here 4 s.chances b;
  times = numbers_here 4 s.times b;
  limits = numbers_here 8 s.limits b;
}

-- all four
reached_all : (at : ℕ) (b : List ℕ) → Reached at b (spans_at at b).limits (done (record_by at (spans_at at b) b))
unfolding spans_at name_span record_by name_stage chance_stage time_stage limit_stage name_section chance_section time_section limit_section
reached_all at b =
    let form : ℕ = number_at 2 at b in
    let day : ℕ = number_at 2 (at + 2) b in
    let n : Option Span = span_after 1 (head_at at b) b in
    let name : List ℕ = numbers_here 1 n b in
    let c : Option Span = span_after 4 n b in
    let chances : List ℕ = numbers_here 4 c b in
    let t : Option Span = span_after 4 c b in
    let times : List ℕ = numbers_here 4 t b in
    reached_on at b (limit_section form chances times)
    (λ limits. done (record { form = form; day = day; name = name; chances = chances; times = times; limits = limits })) t
    (reached_on at b time_section (λ xs. limit_stage form day name chances xs) c
    (reached_on at b chance_section (λ xs. time_stage form day name xs) n
    (reached_on at b name_section (λ xs. chance_stage form day xs) (head_at at b) (reached_head at b))))

-- ---- all sections, or none behind the first that does not stand

pub all_parts : (n c t l : Option Span) (s : Sections) → all_of (record { name = n; chances = c; times = t; limits = l }) ≡ Some s
    → (n ≡ Some s.name) × (c ≡ Some s.chances) × (t ≡ Some s.times) × (l ≡ Some s.limits)
unfolding all_of
all_parts None c t l s h = cc
all_parts (Some n) None t l s h = cc
all_parts (Some n) (Some c) None l s h = cc
all_parts (Some n) (Some c) (Some t) None s h = cc
all_parts (Some n) (Some c) (Some t) (Some l) s h =
    let e : record { name = n; chances = c; times = t; limits = l } ≡ s = cc in
    (cc, cc, cc, cc)

module _ (w₁ w₂ w₃ : ℕ) (b : List ℕ) where
  lacks_limits : (n c t : Span) (l : Option Span) → all_of (record { name = Some n; chances = Some c; times = Some t; limits = l }) ≡ None
      → is_some l ≡ false
  unfolding all_of
  lacks_limits n c t None h = refl
  lacks_limits n c t (Some l) h = cc

  lacks_times : (n c : Span) (t : Option Span)
      → all_of (record { name = Some n; chances = Some c; times = t; limits = span_after w₃ t b }) ≡ None → is_some (span_after w₃ t b) ≡ false
  unfolding all_of span_after
  lacks_times n c None h = refl
  lacks_times n c (Some t) h = lacks_limits n c t (span_at w₃ t.next b) h

  lacks_chances : (n : Span) (c : Option Span)
      → all_of (record { name = Some n; chances = c; times = span_after w₂ c b; limits = span_after w₃ (span_after w₂ c b) b }) ≡ None
      → is_some (span_after w₃ (span_after w₂ c b) b) ≡ false
  unfolding all_of span_after
  lacks_chances n None h = refl
  lacks_chances n (Some c) h = lacks_times n c (span_at w₂ c.next b) h

  all_lack : (n : Option Span)
      → all_of (record {
        name = n;
        chances = span_after w₁ n b;
        times = span_after w₂ (span_after w₁ n b) b;
        limits = span_after w₃ (span_after w₂ (span_after w₁ n b) b) b;
      }) ≡ None
      → is_some (span_after w₃ (span_after w₂ (span_after w₁ n b) b) b) ≡ false
  unfolding all_of span_after
  all_lack None h = refl
  all_lack (Some n) h = lacks_chances n (span_at w₁ n.next b) h

-- the record stands where its last section does
pub record_stands : (at : ℕ) (b : List ℕ) (s : Sections) → all_of (spans_at at b) ≡ Some s
    → plain_record_at at b ≡ found (record_in at s b) s.limits.next (drop s.limits.next b)
unfolding run unjudged record_by record_in all_of
record_stands at b s h =
    let p : Spans = spans_at at b in
    let a = all_parts p.name p.chances p.times p.limits s h in
    let r = reached_all at b in
    let found_lem : plain_record_at at b ≡ found (record_by at p b) (next_of p.limits) (drop (next_of p.limits) b) = r.goes (ap (λ (o : Option Span). is_some o) a.3) in
    found_lem ∙ rw (a.0, a.1, a.2, a.3) refl

pub record_short : (at : ℕ) (b : List ℕ) → all_of (spans_at at b) ≡ None → plain_record_at at b ≡ short
unfolding spans_at
record_short at b h = (reached_all at b).none (all_lack 4 4 8 b (name_span at b) h)
