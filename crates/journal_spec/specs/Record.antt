-- The record, document 01's leaf: its fields, what is refused of each, its reader and its bytes.
-- All numbers are little-endian; a record takes 33 to 652 bytes.
use Rattle.std.specs.Prelude.{ℕ, ◌<◌, ◌^◌, List, [], ◌∷◌, map, ◌&&◌, length, get_or, leb, ltb, eqb}
use Rattle.std.specs.Float.{binary64}
use Rattle.std.specs.Float.Ieee.{to_bits}
use Rattle.limit.specs.Times.{min_ticks, max_ticks, min_count, max_count}
use Rattle.limit.specs.Answer.{LimitResult, limited, refused, form_refusal, chance_refusal, times_refusal}
use Rattle.limit.specs.Limit.{form_known, chance_in_range, limit_of}
use Rattle.journal_spec.specs.Bytes.{bytes_of, joined}
use Rattle.journal_spec.specs.Refusals.{day_refusal, name_refusal, limit_refusal, old_form_refusal, unless, outside, first_of}
use Rattle.journal_spec.specs.Reader.{Reader, done, field, then}
use Rattle.journal_spec.specs.Section.{Section, section, section_bytes}

-- document 01's leaf; the limits are bit patterns of doubles, one for each chance in its order
pub record Record : Type 0 where
  pub form : ℕ
  pub day : ℕ
  pub name : List ℕ
  pub chances : List ℕ
  pub times : List ℕ
  pub limits : List ℕ

-- a day is a u16, days since 1 January 2000
abbrev pub IsDay : ℕ → Type 0
IsDay day = day < 2 ^ 16

-- what the reader of a record knows of the record before it
pub record Last : Type 0 where
  pub form : ℕ
  pub day : ℕ

-- form and day of the last record, both 0 before the first
unfoldable pub last_of : List Record → Last
last_of [] = record { form = 0; day = 0 }
last_of (r ∷ []) = record { form = r.form; day = r.day }
last_of (r ∷ s ∷ rs) = last_of (s ∷ rs)

-- ---- what is refused

-- the refusal of a form: 2 if it is neither 1 nor 2, then 13, since forms never fall
unfoldable pub judge_form : Last → ℕ → ℕ
judge_form last form = first_of (unless (form_known form) form_refusal ∷ unless (leb last.form form) old_form_refusal ∷ [])

-- the refusal of a day: 3, since days never fall
unfoldable pub judge_day : Last → ℕ → ℕ
judge_day last day = unless (leb last.day day) day_refusal

-- bytes of a name: how many, and which
abbrev pub min_name : ℕ
min_name = 1

abbrev pub max_name : ℕ
max_name = 32

abbrev pub min_byte : ℕ
min_byte = 0x21

abbrev pub max_byte : ℕ
max_byte = 0x7e

-- the name's section: 4
unfoldable pub name_section : Section
name_section = record {
  width = 1;
  count = outside min_name max_name name_refusal;
  item = λ before. outside min_byte max_byte name_refusal;
}

-- how many chances
abbrev pub min_chances : ℕ
min_chances = 1

abbrev pub max_chances : ℕ
max_chances = 8

-- the last of some chances, 0 before the first
unfoldable pub last_chance : List ℕ → ℕ
last_chance [] = 0
last_chance (c ∷ []) = c
last_chance (c ∷ d ∷ cs) = last_chance (d ∷ cs)

-- the refusal of a chance: it is in range and above those before it
unfoldable pub judge_chance : List ℕ → ℕ → ℕ
judge_chance before c = unless (chance_in_range c && ltb (last_chance before) c) chance_refusal

-- an even chance, the greatest that append accepts (document 02, 2026-10); a record that stands may have a greater one
abbrev pub even_chance : ℕ
even_chance = 500_000

-- the chances' section: 5
unfoldable pub chance_section : Section
chance_section = record { width = 4; count = outside min_chances max_chances chance_refusal; item = judge_chance }

-- the times' section: 6
unfoldable pub time_section : Section
time_section = record {
  width = 4;
  count = outside min_count max_count times_refusal;
  item = λ before. outside min_ticks max_ticks times_refusal;
}

-- The bits of a limit, against the limit worked out. Form, chances and times are in range where this is asked, so that `limit_of` refuses
-- nothing.
unfoldable pub judge_limit : LimitResult → ℕ → ℕ
judge_limit (limited f) bits = unless (eqb bits (to_bits binary64 f.limit)) limit_refusal
judge_limit (refused n) bits = limit_refusal

-- the limits' section, under the record's own form: 7 for its count, as many limits as chances in their order, and for each
unfoldable pub limit_section : ℕ → List ℕ → List ℕ → Section
limit_section form chances times = record {
  width = 8;
  count = λ n. unless (eqb n (length chances)) limit_refusal;
  item = λ before. judge_limit (limit_of form times (get_or chances (length before) 0));
}

-- ---- the record's fields in byte order

-- after the record `last`
unfoldable pub record_reader : Last → Reader Record
record_reader last =
    field 2 (judge_form last) λ form.
    field 2 (judge_day last) λ day.
    then (section name_section) λ name.
    then (section chance_section) λ chances.
    then (section time_section) λ times.
    then (section (limit_section form chances times)) λ limits.
    done (record { form = form; day = day; name = name; chances = chances; times = times; limits = limits })

-- the record's bytes
unfoldable pub record_bytes : Record → List ℕ
record_bytes r =
    joined
    (bytes_of 2 r.form
    ∷ bytes_of 2 r.day
    ∷ section_bytes 1 r.name
    ∷ section_bytes 4 r.chances
    ∷ section_bytes 4 r.times
    ∷ section_bytes 8 r.limits
    ∷ [])

-- records end to end: document 01's volume
unfoldable pub records_bytes : List Record → List ℕ
records_bytes rs = joined (map record_bytes rs)
