-- Where a record stands, these are its parts, by its counts: form, day and the spans of its sections, the bytes of the sections, and the record
-- that the plain reader finds there. Assumes nothing.
use mathlib.Core.Path.{◌≡◌, refl, sym, ap, ◌∙◌}
use Prim.Native.Nat.{ℕ, ◌+◌, ◌*◌, ◌-◌, ◌^◌, ◌≤◌, ◌<◌}
use mathlib.Core.List.{List, [], ◌∷◌, ◌++◌, append_assoc}
use native.Mathlib.Omega.{arith}
use Rattle.std.proofs.Common.{Some}
use lib.ListN.{length, take, drop, length-append, length-drop}
use lib.Seq.{take_at, drop_at, drop-drop}
use Rattle.journal_spec.specs.Bytes.{bytes_of, number_at, joined}
use Rattle.journal_spec.specs.Section.{number_bytes, section_bytes}
use Rattle.journal_spec.specs.Reader.{found, then}
use Rattle.journal_spec.specs.Record.{Record, Last, last_of, record_reader, record_bytes, records_bytes}
use Rattle.journal_spec.specs.Ranges.{RecordRanges}
use Rattle.journal_spec.proofs.Numbers.{length_bytes}
use Rattle.journal_spec.proofs.Sections.{length_numbers, length_section}
use Rattle.journal_spec.proofs.Records.{length_record}
use Rattle.journal_spec.proofs.Ranged.{reads_back, encoding_length}
use Rattle.journal_spec.proofs.Pieces.{number_at_lem, name_bytes}
use Rattle.journal_spec.proofs.Cursor.{Cursor}
use Rattle.journal_parts.specs.Plain.{unjudged, plain_record_at}
use Rattle.journal_parts.specs.Spans.{form_at, day_at, span_with, span_at, span_after, name_span, spans_at, all_of, next_of, part_of, record_in, span_of, sections_of, spans_of}
use Rattle.journal_parts.specs.declared.spans.Span.{Span}
use Rattle.journal_parts.specs.declared.spans.Spans.{Spans}
use Rattle.journal_parts.specs.declared.spans.Sections.{Sections}
use Rattle.journal_parts.proofs.Plainly.{plain_finds}
use Rattle.journal_parts.proofs.Reached.{span_stands, head_stands, record_stands}
use Rattle.journal_parts.proofs.Insides.{part_inside}

-- ---- the record that is found

-- the plain reader is the same after every record
plain_same : (last other : Last) → unjudged (record_reader last) ≡ unjudged (record_reader other)
unfolding record_reader unjudged then
plain_same last other = refl

-- a record that nothing refuses is found again where its bytes stand
pub record_found : (b : List ℕ) (at : ℕ) (last : Last) (r : Record) (rest : List ℕ) → RecordRanges last r → drop at b ≡ record_bytes r ++ rest
    → plain_record_at at b ≡ found r (at + length (record_bytes r)) rest
unfolding plain_record_at
record_found b at last r rest good e =
    rw (e, plain_same (last_of []) last)
    (plain_finds (record_reader last) at (record_bytes r ++ rest) r _ rest ((reads_back last r good).on at rest))

-- behind any bytes
pub record_there : (last : Last) (r : Record) (pre post : List ℕ) → RecordRanges last r
    → plain_record_at (length pre) (pre ++ (record_bytes r ++ post)) ≡ found r (length pre + length (record_bytes r)) post
record_there last r pre post good = record_found _ (length pre) last r post good (drop_at pre (record_bytes r ++ post) (length pre) refl)

-- ---- pieces end to end

-- the first piece, and the others behind it
pieces : (at : ℕ) (b x : List ℕ) (xs : List (List ℕ)) (rest : List ℕ) (n next : ℕ) → drop at b ≡ joined (x ∷ xs) ++ rest → length x ≡ n
    → next ≡ at + n → (drop at b ≡ x ++ (joined xs ++ rest)) × (drop next b ≡ joined xs ++ rest)
unfolding joined
pieces at b x xs rest n next e h k =
    let f : drop at b ≡ x ++ (joined xs ++ rest) = e ∙ append_assoc x (joined xs) rest in
    (f, rw k (sym (drop-drop n at b) ∙ ap (drop n) f ∙ drop_at x (joined xs ++ rest) n h))

-- ---- a section

-- at a place: its span, and its bytes
record SpanHere (w at : ℕ) (b xs : List ℕ) : Type 0 where
  span : span_at w at b ≡ Some (span_of w at xs)
  inside : at + 2 + length xs * w ≤ length b
  part : part_of (Some (span_of w at xs)) b ≡ number_bytes w xs

module _ (w at : ℕ) (b xs rest : List ℕ) (low : at ≤ length b) (e : drop at b ≡ section_bytes w xs ++ rest) where
  section_inside : at + 2 + length xs * w ≤ length b
  section_inside = omega (arith, ap length e, length-append (section_bytes w xs) rest, length_section w xs, length-drop at b, low)

  section_count : length xs < 256 ^ 2 → number_at 2 at b ≡ length xs
  unfolding section_bytes
  section_count h =
      number_at_lem 2 at b (length xs) (number_bytes w xs ++ rest) (e ∙ append_assoc (bytes_of 2 (length xs)) (number_bytes w xs) rest) h

  section_bytes_lem : drop (at + 2) b ≡ number_bytes w xs ++ rest
  unfolding section_bytes
  section_bytes_lem =
      sym (drop-drop 2 at b) ∙ ap (drop 2) (e ∙ append_assoc (bytes_of 2 (length xs)) (number_bytes w xs) rest)
      ∙ drop_at (bytes_of 2 (length xs)) (number_bytes w xs ++ rest) 2 (length_bytes 2 (length xs))

  span_here : length xs < 256 ^ 2 → SpanHere w at b xs
  unfolding span_of
  span_here h =
      let n = section_count h in
      let size : at + 2 + length xs * w - (at + 2) ≡ length xs * w = omega arith in
      record {
        span = span_stands w at b (rw n section_inside) ∙ ap (λ (k : ℕ). Some (span_with w at k)) n;
        inside = section_inside;
        part = part_inside (span_with w at (length xs)) b (omega arith) section_inside
            ∙ rw size (ap (take (length xs * w)) section_bytes_lem ∙ take_at (number_bytes w xs) rest (length xs * w) (length_numbers w xs));
      }

-- ---- a record

-- where the sections stand, one behind another
spans_by : (at : ℕ) (b : List ℕ) (n c t l : Span) → name_span at b ≡ Some n → span_after 4 (Some n) b ≡ Some c
    → span_after 4 (Some c) b ≡ Some t → span_after 8 (Some t) b ≡ Some l
    → spans_at at b ≡ record { name = Some n; chances = Some c; times = Some t; limits = Some l }
unfolding spans_at
spans_by at b n c t l e₁ e₂ e₃ e₄ = rw (e₁, e₂, e₃, e₄) refl

-- behind a section that stands
after_span : (w v at : ℕ) (b xs : List ℕ) → span_after w (Some (span_of v at xs)) b ≡ span_at w (at + 2 + length xs * v) b
unfolding span_after span_of
after_span w v at b xs = refl

first_span : (at : ℕ) (b : List ℕ) → at + 4 ≤ length b → name_span at b ≡ span_at 1 (at + 4) b
unfolding name_span span_after
first_span at b h = rw (head_stands at b h) refl

-- the parts of the record whose bytes stand at a place
pub record Parts (b : List ℕ) (at : ℕ) (r : Record) : Type 0 where
  pub inside : at + length (record_bytes r) ≤ length b
  pub length' : length (record_bytes r) ≡ 12 + length r.name + 12 * length r.chances + 4 * length r.times
  pub small : (33 ≤ length (record_bytes r)) × (length (record_bytes r) ≤ 652)
  pub form : form_at b at ≡ r.form
  pub day : day_at b at ≡ r.day
  pub spans : spans_at at b ≡ spans_of at r
  pub next : next_of (spans_at at b).limits ≡ at + length (record_bytes r)
  pub name : part_of (spans_of at r).name b ≡ r.name
  pub chances : part_of (spans_of at r).chances b ≡ number_bytes 4 r.chances
  pub limits : part_of (spans_of at r).limits b ≡ number_bytes 8 r.limits
  pub is : record_in at (sections_of at r) b ≡ r

module _ (b : List ℕ) (at : ℕ) (last : Last) (r : Record) (rest : List ℕ) (low : at ≤ length b) (g : RecordRanges last r)
    (e : drop at b ≡ record_bytes r ++ rest) where
  record_inside : at + length (record_bytes r) ≤ length b
  record_inside = omega (arith, ap length e, length-append (record_bytes r) rest, length-drop at b, low, encoding_length last r g)

  -- what is found there is the record in the places of its sections
  record_read_lem : (s : Sections) → all_of (spans_at at b) ≡ Some s → (record_in at s b ≡ r) × (s.limits.next ≡ at + length (record_bytes r))
  record_read_lem s t =
      let same : found (record_in at s b) s.limits.next (drop s.limits.next b) ≡ found r (at + length (record_bytes r)) rest =
      sym (record_stands at b s t) ∙ record_found b at last r rest g e in
      (cc, cc)

  pub parts_are : Parts b at r
  unfolding record_bytes sections_of span_of all_of
  parts_are =
      let names : ℕ = length r.name in
      let chances : ℕ = length r.chances in
      let times : ℕ = length r.times in
      let at₄ : ℕ = at + 4 + 2 + names * 1 in
      let at₅ : ℕ = at₄ + 2 + chances * 4 in
      let at₆ : ℕ = at₅ + 2 + times * 4 in
      let p₁ = pieces at b (bytes_of 2 r.form) _ rest 2 (at + 2) e (length_bytes 2 r.form) refl in
      let p₂ = pieces (at + 2) b (bytes_of 2 r.day) _ rest 2 (at + 4) p₁.1 (length_bytes 2 r.day) (omega arith) in
      let p₃ = pieces (at + 4) b (section_bytes 1 r.name) _ rest (2 + names * 1) at₄ p₂.1 (length_section 1 r.name) (omega arith) in
      let p₄ = pieces at₄ b (section_bytes 4 r.chances) _ rest (2 + chances * 4) at₅ p₃.1 (length_section 4 r.chances) (omega arith) in
      let p₅ = pieces at₅ b (section_bytes 4 r.times) _ rest (2 + times * 4) at₆ p₄.1 (length_section 4 r.times) (omega arith) in
      let p₆ = pieces at₆ b (section_bytes 8 r.limits) _ rest _ _ p₅.1 (length_section 8 r.limits) refl in
      let head : at + 4 ≤ length b = omega (arith, record_inside, encoding_length last r g) in
      let s₃ = span_here 1 (at + 4) b r.name _ head p₃.0 (omega (arith, g.name.most)) in
      let s₄ = span_here 4 at₄ b r.chances _ s₃.inside p₄.0 (omega (arith, g.chances.most)) in
      let s₅ = span_here 4 at₅ b r.times _ s₄.inside p₅.0 (omega (arith, g.times.most)) in
      let s₆ = span_here 8 at₆ b r.limits _ s₅.inside p₆.0 (omega (arith, g.chances.most, g.limit_count)) in
      let spans : spans_at at b ≡ spans_of at r =
      spans_by at b (span_of 1 (at + 4) r.name) (span_of 4 at₄ r.chances) (span_of 4 at₅ r.times) (span_of 8 at₆ r.limits)
      (first_span at b head ∙ s₃.span)
      (after_span 4 1 (at + 4) b r.name ∙ s₄.span)
      (after_span 4 4 at₄ b r.chances ∙ s₅.span)
      (after_span 8 4 at₅ b r.times ∙ s₆.span) in
      let read = record_read_lem (sections_of at r) (ap all_of spans) in
      record {
        inside = record_inside;
        length' = omega (arith, length_record r, g.limit_count);
        small = encoding_length last r g;
        form = number_at_lem 2 at b r.form _ p₁.0 (omega (arith, g.form));
        day = number_at_lem 2 (at + 2) b r.day _ p₂.0 (omega (arith, g.day_fits));
        spans = spans;
        next = ap (λ (s : Spans). next_of s.limits) spans ∙ read.1;
        name = s₃.part ∙ name_bytes r.name g.name.bytes;
        chances = s₄.part;
        limits = s₆.part;
        is = read.0;
      }

-- of the first of records that stand from a place on
pub cursor_parts : (b : List ℕ) (at : ℕ) (r : Record) (rs : List Record) → Cursor b at (r ∷ rs) → Parts b at r
unfolding records_bytes joined
cursor_parts b at r rs c = parts_are b at c.good.0.last r (records_bytes rs) c.inside c.good.0.good c.bytes
