-- Where the parts of a record stand in some bytes, by its counts alone: the one account of the layout besides document 01's reader (crate
-- journal_spec) and the writer's. Nothing is judged. Where a record stands these are its parts: law `parts_are`.
use Rattle.std.specs.Prelude.{ℕ, ◌+◌, ◌*◌, ◌-◌, ◌≤◌, List, [], cond, ◌&&◌, length, take, drop, leb, Option, Some, None, option_and_then}
use Rattle.journal_spec.specs.Bytes.{number_at, numbers_in}
use Rattle.journal_spec.specs.Record.{Record}
use Rattle.journal_parts.specs.declared.spans.Span.{Span}
use Rattle.journal_parts.specs.declared.spans.Spans.{Spans}
use Rattle.journal_parts.specs.declared.spans.Sections.{Sections}

-- ---- by the counts

abbrev pub form_at : List ℕ → ℕ → ℕ
form_at b at = number_at 2 at b

abbrev pub day_at : List ℕ → ℕ → ℕ
day_at b at = number_at 2 (at + 2) b

-- form and day, the four bytes before the name's section
unfoldable pub head_at : ℕ → List ℕ → Option Span
head_at at b = cond (leb (at + 4) (length b)) (Some (record { first = at; count = 0; next = at + 4 })) None

-- a section with its count at a place: n numbers of w bytes behind it
abbrev pub span_with : ℕ → ℕ → ℕ → Span
span_with w at n = record { first = at + 2; count = n; next = at + 2 + n * w }

-- the section of numbers of w bytes at a place, if the bytes go so far
unfoldable pub span_at : ℕ → ℕ → List ℕ → Option Span
span_at w at b = let n = number_at 2 at b in cond (leb (at + 2 + n * w) (length b)) (Some (span_with w at n)) None

-- the section behind another; it stands only if that one does
unfoldable pub span_after : ℕ → Option Span → List ℕ → Option Span
span_after w None b = None
span_after w (Some before) b = span_at w before.next b

-- the name of the record at a place
unfoldable pub name_span : ℕ → List ℕ → Option Span
name_span at b = span_after 1 (head_at at b) b

-- its four sections; all stand if the last does
unfoldable pub spans_at : ℕ → List ℕ → Spans
spans_at at b =
    let chances = span_after 4 (name_span at b) b in
    let times = span_after 4 chances b in
    record { name = name_span at b; chances = chances; times = times; limits = span_after 8 times b }

-- all four, if the last stands
unfoldable pub all_of : Spans → Option Sections
all_of s =
    option_and_then (λ name. option_and_then (λ chances. option_and_then (λ times. option_and_then
    (λ limits. Some (record { name = name; chances = chances; times = times; limits = limits })) s.limits) s.times) s.chances) s.name

-- how many numbers a section has, 0 where it does not stand
abbrev pub count_of : Option Span → ℕ
count_of None = 0
count_of (Some s) = s.count

-- the place behind a section, 0 where it does not stand
abbrev pub next_of : Option Span → ℕ
next_of None = 0
next_of (Some s) = s.next

-- ---- what stands there

-- the bytes of a section's numbers, none where they do not all stand
unfoldable pub part_of : Option Span → List ℕ → List ℕ
part_of None b = []
part_of (Some s) b = cond (leb s.first s.next && leb s.next (length b)) (take (s.next - s.first) (drop s.first b)) []

-- the numbers of w bytes of a section
unfoldable pub numbers_of : ℕ → Span → List ℕ → List ℕ
numbers_of w s b = numbers_in w s.count s.first b

-- a section's numbers of w bytes stand inside the bytes
abbrev pub Inside : ℕ → Span → List ℕ → Type 0
Inside w s b = s.first + s.count * w ≤ length b

-- the record at a place with its sections in those places
unfoldable pub record_in : ℕ → Sections → List ℕ → Record
record_in at s b = record {
  form = form_at b at;
  day = day_at b at;
  name = numbers_of 1 s.name b;
  chances = numbers_of 4 s.chances b;
  times = numbers_of 4 s.times b;
  limits = numbers_of 8 s.limits b;
}

-- ---- of a record

-- the section with its count at a place that has these numbers of w bytes
unfoldable pub span_of : ℕ → ℕ → List ℕ → Span
span_of w at xs = span_with w at (length xs)

-- the sections of a record at a place
unfoldable pub sections_of : ℕ → Record → Sections
sections_of at r =
    let name = span_of 1 (at + 4) r.name in
    let chances = span_of 4 name.next r.chances in
    let times = span_of 4 chances.next r.times in
    record { name = name; chances = chances; times = times; limits = span_of 8 times.next r.limits }

-- as they are found
abbrev pub spans_of : ℕ → Record → Spans
spans_of at r =
    let s = sections_of at r in
    record { name = Some s.name; chances = Some s.chances; times = Some s.times; limits = Some s.limits }
