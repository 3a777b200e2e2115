-- Where the last section of a record stands, all its sections stand inside the bytes; and the bytes of a section, by whether they stand.
-- Assumes nothing.
use mathlib.Core.Path.{◌≡◌, refl, sym, ◌∙◌}
use Prim.Native.Nat.{ℕ, ◌+◌, ◌*◌, ◌-◌, ◌≤◌, ◌<◌}
use mathlib.Core.List.{List, []}
use mathlib.Core.Bool.{Bool, true, false, cond, ◌&&◌}
use lib.ListN.{length, take, drop}
use Rattle.std.proofs.Common.{Option, Some, None}
use Rattle.std.proofs.lemmas.Option.{none-some, same_Some}
use lib.Dec.{leb}
use borrow.Author.Tests.{le-leb, lt-leb}
use Rattle.facts.proofs.Orders.{by_order}
use Rattle.journal_spec.specs.Bytes.{number_at}
use Rattle.journal_parts.specs.Spans.{head_at, span_with, span_at, span_after, name_span, spans_at, all_of, part_of, Inside}
use Rattle.journal_parts.specs.declared.spans.Span.{Span}
use Rattle.journal_parts.specs.declared.spans.Spans.{Spans}
use Rattle.journal_parts.specs.declared.spans.Sections.{Sections}
use Rattle.journal_parts.proofs.Reached.{span_stands, span_beyond, head_beyond, all_parts}

span_inside : (w at : ℕ) (b : List ℕ) (s : Span) → span_at w at b ≡ Some s → Inside w s b
span_inside w at b s t =
    by_order (at + 2 + number_at 2 at b * w) (length b)
    (λ h. let e : span_with w at (number_at 2 at b) ≡ s = same_Some _ _ (sym (span_stands w at b h) ∙ t) in rw (← e) h)
    (λ h. absurd (none-some s (sym (span_beyond w at b h) ∙ t)))

head_inside : (at : ℕ) (b : List ℕ) (s : Span) → head_at at b ≡ Some s → at + 4 ≤ length b
head_inside at b s t =
    by_order (at + 4) (length b) (λ h. h) (λ h. absurd (none-some s (sym (head_beyond at b h) ∙ t)))

-- a section behind another: both stand
record Behind (w : ℕ) (before : Option Span) (s : Span) (b : List ℕ) : Type 0 where
  stood : (p : Span) × (before ≡ Some p)
  inside : Inside w s b

behind : (w : ℕ) (before : Option Span) (s : Span) (b : List ℕ) → span_after w before b ≡ Some s → Behind w before s b
unfolding span_after
behind w (Some before) s b t = record { stood = (before, refl); inside = span_inside w before.next b s t }
behind w None s b t = absurd (none-some s t)

-- the record's head and its sections
pub record Standing (at : ℕ) (s : Sections) (b : List ℕ) : Type 0 where
  pub head : at + 4 ≤ length b
  pub name : Inside 1 s.name b
  pub chances : Inside 4 s.chances b
  pub times : Inside 4 s.times b
  pub limits : Inside 8 s.limits b

pub standing : (at : ℕ) (s : Sections) (b : List ℕ) → all_of (spans_at at b) ≡ Some s → Standing at s b
unfolding all_of spans_at name_span
standing at s b t =
    let p : Spans = spans_at at b in
    let a = all_parts p.name p.chances p.times p.limits s t in
    let name = behind 1 (head_at at b) s.name b a.0 in
    record {
      head = head_inside at b name.stood.0 name.stood.1;
      name = name.inside;
      chances = (behind 4 p.name s.chances b a.1).inside;
      times = (behind 4 p.chances s.times b a.2).inside;
      limits = (behind 8 p.times s.limits b a.3).inside;
    }

-- ---- the bytes of a section

module _ (s : Span) (b : List ℕ) where
  pub part_inside : s.first ≤ s.next → s.next ≤ length b → part_of (Some s) b ≡ take (s.next - s.first) (drop s.first b)
  unfolding part_of
  part_inside h k = rw (le-leb s.first s.next h, le-leb s.next (length b) k) refl

  pub part_turned : s.next < s.first → part_of (Some s) b ≡ []
  unfolding part_of
  part_turned h = rw (lt-leb s.first s.next h) refl

  pub part_beyond : length b < s.next → part_of (Some s) b ≡ []
  unfolding part_of
  part_beyond k = rw (lt-leb s.next (length b) k) (none (leb s.first s.next))
    where
      none : (t : Bool) → cond (t && false) (take (s.next - s.first) (drop s.first b)) [] ≡ []
      none true = refl
      none false = refl
