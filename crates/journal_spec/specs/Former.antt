-- What came before document 02's requests: the reader that knows form 1 alone, and is the journal's own otherwise (2026-04), the mark that
-- tests F first (2026-07), and the reader of before 17 (2026-10). proofs/Former.antt, Marks.antt and Unchanged.antt compare them with today's.
use Rattle.std.specs.Prelude.{◌≡◌, ℕ, zero, suc, ◌-◌, min, List, [], ◌∷◌, ◌++◌, cond, ◌&&◌, length, take, leb, ltb, eqb}
use Rattle.limit.specs.Formula.{plain_form, sample_form}
use Rattle.limit.specs.Answer.{form_refusal}
use Rattle.journal_spec.specs.Bytes.{number_at}
use Rattle.journal_spec.specs.Refusals.{length_refusal, unless}
use Rattle.journal_spec.specs.Reader.{Reader, field, then, found, fault, short, run}
use Rattle.journal_spec.specs.Section.{Section, section}
use Rattle.journal_spec.specs.Record.{Record, Last, last_of, judge_form, judge_day, name_section, last_chance}
use Rattle.journal_spec.specs.Stages.{day_stage, time_stage}
use Rattle.journal_spec.specs.Profile.{plain}
use Rattle.journal_spec.specs.Scan.{max_length, Placed, records_of, Contents, standing, faulty, status_of, scan_of}
use Rattle.journal_spec.specs.Read.{Mark, flat, few, normal, few_times, are_equal, part_of, part_bytes, read_part, mark_in, read_mark}

-- ---- a journal under another reader of its records

-- what a journal holds, as `contents_from` and `contents_of` say it
unfoldable pub held_from : (Last → Reader Record) → ℕ → List Placed → ℕ → List ℕ → Contents
held_from reader zero ps at bs = standing ps at
held_from reader (suc more) ps at bs =
    elim (run (reader (last_of (records_of ps))) at bs) [
      | found r next rest ↦ held_from reader more (ps ++ record { content = r; start = at; size = next - at } ∷ []) next rest
      | fault n p ↦ faulty n p
      | short ↦ standing ps at
    ]

unfoldable pub held_by : (Last → Reader Record) → List ℕ → ℕ → Contents
held_by reader slice len = cond (leb len (min (length slice) max_length)) (held_from reader len [] 0 (take len slice)) (faulty length_refusal 0)

-- ---- before form 2

-- its refusal of a form: 2 if it is not 1
unfoldable pub former_form : ℕ → ℕ
former_form form = unless (eqb form plain_form) form_refusal

-- a record
unfoldable pub former_reader : Last → Reader Record
former_reader last = field 2 former_form (day_stage last)

unfoldable pub former_contents : List ℕ → ℕ → Contents
former_contents = held_by former_reader

-- it stops at a form 2 with refusal 2, at the form's first byte
pub record StopsAtSample (slice : List ℕ) (len : ℕ) : Type 0 where
  pub place : ℕ
  pub stands : number_at 2 place (take len slice) ≡ sample_form
  pub refused : former_contents slice len ≡ faulty form_refusal place

-- ---- before S was tested first

-- the mark of a set of times: F if they are all equal, else S if there are fewer than 8, else N
unfoldable pub former_mark : List ℕ → Mark
former_mark times = cond (are_equal times) flat (cond (ltb (length times) few_times) few normal)

-- ---- before 17

-- document 01's chances: 1 to 8 of u32, each 1 to 999,999 in a million, rising strictly; else 5
unfoldable pub wide_section : Section
wide_section = record {
  width = 4;
  count = λ n. cond (leb 1 n && leb n 8) 0 5;
  item = λ before c. cond ((leb 1 c && leb c 999_999) && ltb (last_chance before) c) 0 5;
}

-- a record of either form
unfoldable pub wide_reader : Last → Reader Record
wide_reader last =
    field 2 (judge_form last) λ form.
    field 2 (judge_day last) λ day.
    then (section name_section) λ name.
    then (section wide_section) λ chances.
    time_stage form day name chances

unfoldable pub wide_contents : List ℕ → ℕ → Contents
wide_contents = held_by wide_reader

-- scan, and for each i both calls of reading, answer what they answered under that reader
pub record ReadsUnchanged (slice : List ℕ) (len : ℕ) : Type 0 where
  pub scan : scan_of plain slice len ≡ status_of len (wide_contents slice len)
  pub part : (i : ℕ) → read_part plain slice len i ≡ part_bytes slice (part_of (wide_contents slice len) i)
  pub mark : (i : ℕ) → read_mark plain slice len i ≡ mark_in (wide_contents slice len) i
