-- Worked examples, computed from the definitions: document 01's 33 bytes, cuts of them, faults at their places, declined offers, logs and marks.
-- Assumes nothing.
use mathlib.Core.Path.{◌≡◌, refl, sym, ap, ◌∙◌}
use Prim.Native.Nat.{ℕ, zero, suc, ◌≤◌, ◌<◌}
use mathlib.Core.List.{List, [], ◌∷◌, ◌++◌, append-nil}
use mathlib.Core.Bool.{true, false}
use mathlib.Core.Option.{Option, none, some}
use native.Mathlib.Omega.{arith}
use lib.ListN.{length, take, get_or, set, replicate}
use lib.Ieee.{binary64, of_bits, to_bits}
use Rattle.limit.specs.Times.{in_range}
use Rattle.limit.specs.Formula.{plain_form}
use Rattle.limit.specs.Limit.{form_known, chance_in_range}
use Rattle.journal_spec.specs.Bytes.{bytes_of, value_of, joined}
use Rattle.journal_spec.specs.Refusals.{unless, outside, first_of}
use Rattle.journal_spec.specs.Reader.{fault, run, then}
use Rattle.journal_spec.specs.Section.{items, section, number_bytes, section_bytes, items_refusal, section_refusal}
use Rattle.journal_spec.specs.Record.{Record, last_of, judge_form, judge_day, name_section, last_chance, judge_chance, chance_section, time_section}
use Rattle.journal_spec.specs.Record.{limit_section, record_reader, record_bytes, records_bytes}
use Rattle.journal_spec.specs.Profile.{plain, profile, in_profile, keeps}
use Rattle.journal_spec.specs.Scan.{Placed, records_of, judged, record_at, contents_from, contents_of, whole, torn, damaged, status_of, scan_of}
use Rattle.journal_spec.specs.Read.{flat, few, normal, letter_of, all_equal, are_equal, mark_from, mark_of, unmarked, mark_at, mark_in, read_mark}
use Rattle.journal_spec.specs.Tests.{each, same, name_good}
use Rattle.journal_spec.specs.Index.{IndexEntry, entry_bytes, index_bytes, in_front, order_of, amend, entry_of, amend_all, index_of}
use Rattle.journal_spec.specs.Log.{begin, lines_of, name_in, digits_in, digits_good, decimal_from, ticks_in, line_good, Gathered, gathered, misread}
use Rattle.journal_spec.specs.Log.{take_line, gather_from, gather_of}
use Rattle.journal_spec.specs.Request.{all, times, log, Request, gather_by, times_of, gathered_times, offer_of, declined, declined_at}
use Rattle.journal_spec.specs.Request as R
use Rattle.journal_spec.specs.Append.{offered, limits_of, judge_even, judge_room, of_handed, judge_index, judge_index_room, next_index}
use Rattle.journal_spec.specs.Append.{append_refusals, unchanged, settle, append_to, append_with, append_of}
use Rattle.journal_spec.specs.Model.{break_from, worked_out}
use Rattle.journal_spec.specs.Ranges.{RecordRanges}
use Rattle.journal_spec.proofs.EvenChance.{worked_plain}
use Rattle.journal_spec.proofs.Scanning.{unless_broken, contents_of_lem, torn_none}
use Rattle.journal_spec.proofs.Format.{whole_scan, torn_scan}

-- ---- numbers

pub little_endian : bytes_of 4 500_000 ≡ 0x20 ∷ 0xa1 ∷ 0x07 ∷ 0x00 ∷ []
unfolding bytes_of
little_endian = refl

pub little_endian_value : value_of (0x20 ∷ 0xa1 ∷ 0x07 ∷ 0x00 ∷ []) ≡ 500_000
unfolding value_of
little_endian_value = refl

-- ---- document 01's example

-- name A, day 1, chance 500,000, times 100 and 100, limit 100
unfoldable pub the_record : Record
the_record = record {
  form = 1;
  day = 1;
  name = 0x41 ∷ [];
  chances = 500_000 ∷ [];
  times = 100 ∷ 100 ∷ [];
  limits = 0x4059_0000_0000_0000 ∷ [];
}

-- its 33 bytes as the paper has them
unfoldable pub the_bytes : List ℕ
the_bytes =
    0x01 ∷ 0x00
    ∷ 0x01 ∷ 0x00
    ∷ 0x01 ∷ 0x00 ∷ 0x41
    ∷ 0x01 ∷ 0x00 ∷ 0x20 ∷ 0xa1 ∷ 0x07 ∷ 0x00
    ∷ 0x02 ∷ 0x00 ∷ 0x64 ∷ 0x00 ∷ 0x00 ∷ 0x00 ∷ 0x64 ∷ 0x00 ∷ 0x00 ∷ 0x00
    ∷ 0x01 ∷ 0x00 ∷ 0x00 ∷ 0x00 ∷ 0x00 ∷ 0x00 ∷ 0x00 ∷ 0x00 ∷ 0x59 ∷ 0x40
    ∷ []

pub encoded : record_bytes the_record ≡ the_bytes
unfolding the_record the_bytes record_bytes joined section_bytes number_bytes bytes_of
encoded = refl

hundred_bits : to_bits binary64 (of_bits binary64 0x4059_0000_0000_0000) ≡ 0x4059_0000_0000_0000
unfolding of_bits to_bits
hundred_bits = refl

in_range_lem : RecordRanges (last_of []) the_record
unfolding the_record last_of
in_range_lem = record {
  form = (omega arith, omega arith);
  forms = omega arith;
  day = omega arith;
  day_fits = omega arith;
  name = record { least = omega arith; most = omega arith; bytes = λ i k. letter i k };
  chances = record { least = omega arith; most = omega arith; range = λ i k. chance i k; rising = λ i k. absurd (omega arith) };
  times = record { least = omega arith; most = omega arith; range = λ i k. time i k };
  limit_count = refl;
  limits = λ i k. bits i k;
}
  where
    letter : (i : ℕ) → i < 1 → (0x21 ≤ get_or (0x41 ∷ []) i 0) × (get_or (0x41 ∷ []) i 0 ≤ 0x7e)
    letter zero k = (omega arith, omega arith)
    letter (suc i) k = absurd (omega arith)

    chance : (i : ℕ) → i < 1 → (1 ≤ get_or (500_000 ∷ []) i 0) × (get_or (500_000 ∷ []) i 0 ≤ 999_999)
    chance zero k = (omega arith, omega arith)
    chance (suc i) k = absurd (omega arith)

    time : (i : ℕ) → i < 2 → (1 ≤ get_or (100 ∷ 100 ∷ []) i 0) × (get_or (100 ∷ 100 ∷ []) i 0 ≤ 1_048_575)
    time zero k = (omega arith, omega arith)
    time (suc zero) k = (omega arith, omega arith)
    time (suc (suc i)) k = absurd (omega arith)

    bits : (i : ℕ) → i < 1
        → get_or (0x4059_0000_0000_0000 ∷ []) i 0 ≡ to_bits binary64 (worked_out plain_form (100 ∷ 100 ∷ []) (get_or (500_000 ∷ []) i 0))
    bits zero k = sym (ap (to_bits binary64) worked_plain ∙ hundred_bits)
    bits (suc i) k = absurd (omega arith)

-- the example is whole, with one record and 33 bytes
pub whole_example : scan_of plain the_bytes 33 ≡ whole 1 33
unfolding the_bytes records_bytes joined
whole_example =
    let all : records_bytes (the_record ∷ []) ≡ the_bytes = append-nil (record_bytes the_record) ∙ encoded in
    whole_scan the_bytes 33 (the_record ∷ []) (in_range_lem, tt) (omega arith) (omega arith) (sym all) ∙ rw all refl

-- it is no record of the profile
pub profile_example : scan_of profile the_bytes 33 ≡ damaged 19 0
unfolding the_bytes scan_of records_bytes joined
profile_example =
    let all : records_bytes (the_record ∷ []) ≡ the_bytes = append-nil (record_bytes the_record) ∙ encoded in
    rw (contents_of_lem profile the_bytes 33 (the_record ∷ []) [] (omega arith) (omega arith) (sym (append-nil _ ∙ all))
    (ap length (sym (append-nil _ ∙ all))) (in_range_lem, tt) (torn_none (the_record ∷ [])))
    (unfold break_from keeps in_profile the_record same unless_broken status_of in refl)

-- cut to 32 bytes it is torn, with none
pub cut_example : scan_of plain the_bytes 32 ≡ torn 0 0
unfolding the_bytes records_bytes joined
cut_example =
    torn_scan the_bytes 32 [] the_record 32 tt in_range_lem (omega arith) (rw encoded (omega arith)) (omega arith) (omega arith)
    (ap (take 32) (sym encoded))

-- the same, computed, where no limit stands
pub cut_early : scan_of plain the_bytes 25 ≡ torn 0 0
unfolding the_bytes scan_of status_of contents_of contents_from record_at judged keeps records_of last_of record_reader run then section items value_of
    judge_form form_known judge_day name_section chance_section judge_chance chance_in_range last_chance time_section limit_section outside
    unless first_of in_range
cut_early = refl

pub empty_whole : scan_of plain the_bytes 0 ≡ whole 0 0
unfolding the_bytes scan_of status_of contents_of contents_from
empty_whole = refl

-- ---- faults and their places

abbrev fault_at : List ℕ → ℕ → ℕ → Type 0
fault_at bytes number place = scan_of plain bytes (length bytes) ≡ damaged number place

pub record Faults : Type 0 where
  pub beyond : scan_of plain the_bytes 34 ≡ damaged 1 0
  pub form : fault_at (set the_bytes 0 3) 2 0
  pub name_count : fault_at (set the_bytes 4 0) 4 4
  pub name_long : fault_at (set the_bytes 4 33) 4 4
  pub name_byte : fault_at (set the_bytes 6 0x20) 4 6
  pub name_byte_high : fault_at (set the_bytes 6 0x7f) 4 6
  pub chance_count : fault_at (set the_bytes 7 9) 5 7
  pub chance_range : fault_at (set the_bytes 11 0x10) 5 9
  pub time_count : fault_at (set the_bytes 13 1) 6 13
  pub time_zero : fault_at (set the_bytes 15 0) 6 15
  pub second_time : fault_at (set the_bytes 21 0x10) 6 19
  pub limit_count : fault_at (set the_bytes 23 2) 7 23

pub faults : Faults
unfolding the_bytes scan_of status_of contents_of contents_from record_at judged keeps records_of last_of record_reader run then section items value_of
    judge_form form_known judge_day name_section chance_section judge_chance chance_in_range last_chance time_section limit_section outside
    unless first_of in_range
faults = record {
  beyond = refl;
  form = refl;
  name_count = refl;
  name_long = refl;
  name_byte = refl;
  name_byte_high = refl;
  chance_count = refl;
  chance_range = refl;
  time_count = refl;
  time_zero = refl;
  second_time = refl;
  limit_count = refl;
}

-- form 1 after a record of form 2, before its day is judged
pub old_form : run (record_reader (record { form = 2; day = 9 })) 33 the_bytes ≡ fault 13 33
unfolding the_bytes record_reader run then section items value_of judge_form form_known unless first_of in_range
old_form = refl

-- day 1 after a record of day 2
pub day_falls_lem : run (record_reader (record { form = 1; day = 2 })) 33 the_bytes ≡ fault 3 35
unfolding the_bytes record_reader run then section items value_of judge_form form_known judge_day unless first_of in_range
day_falls_lem = refl

-- no record in an empty journal
pub no_record : read_mark plain the_bytes 0 0 ≡ unmarked 10
unfolding the_bytes read_mark mark_in mark_at contents_of contents_from
no_record = refl

-- ---- declined offers

-- an offer of which nothing is right, made better from the front
abbrev offer : List ℕ → List ℕ → List ℕ → Request
offer name chances ts = record { day = 1; name = name; chances = chances; source = times ts; budget = all; rule = plain; index = none }

-- the same with nothing wrong but what a log brings
abbrev through : List ℕ → Request
through bytes = record { day = 1; name = 0x41 ∷ []; chances = 1 ∷ 500_000 ∷ []; source = log bytes; budget = all; rule = plain; index = none }

abbrev declined_by : Request → ℕ → Type 0
declined_by q n = (append_of (record { slice = the_bytes; len = 0 }) q).answer ≡ declined n

pub record Declined : Type 0 where
  pub damage : (append_of (record { slice = set the_bytes 0 3; len = 33 }) (offer [] [] [])).answer ≡ R.damaged 2 0
  pub name : declined_by (offer [] [] []) 4
  pub chances : declined_by (offer (0x41 ∷ []) [] []) 5
  pub falling : declined_by (offer (0x41 ∷ []) (2 ∷ 2 ∷ []) []) 5
  pub beyond : declined_by (offer (0x41 ∷ []) (1 ∷ 500_001 ∷ []) []) 17
  pub times : declined_by (offer (0x41 ∷ []) (1 ∷ 500_000 ∷ []) []) 6
  pub no_line : declined_by (through []) 6
  pub one_line : declined_by (through (0x41 ∷ 0x20 ∷ 0x31 ∷ 0x0a ∷ [])) 6
  pub bad_line : (append_of (record { slice = the_bytes; len = 34 }) (through (0x0a ∷ []))).answer ≡ declined_at 11 0

-- an offer of 33 bytes, by the index's buffer that is handed with it
abbrev handing : Option (List ℕ) → Request
handing index =
    record { day = 1; name = 0x41 ∷ []; chances = 500_000 ∷ []; source = times (100 ∷ 100 ∷ []); budget = all; rule = plain; index = index }

pub record DeclinedLast : Type 0 where
  pub room : (append_of (record { slice = take 32 the_bytes; len = 0 }) (handing none)).answer ≡ declined 9
  pub index : declined_by (handing (some (1 ∷ 0 ∷ []))) 14
  pub index_room : declined_by (handing (some (0 ∷ 0 ∷ []))) 15

pub declines_last : DeclinedLast
unfolding the_bytes append_of append_with times_of gather_by gathered_times append_to settle unchanged append_refusals judge_even judge_room first_of section_refusal
    offer_of offered limits_of of_handed judge_index judge_index_room next_index index_of amend_all amend index_bytes entry_bytes in_front same record_bytes joined
    section_bytes number_bytes bytes_of items_refusal contents_of contents_from keeps records_of last_of judge_day name_section chance_section judge_chance
    chance_in_range last_chance time_section outside unless in_range
declines_last = record { room = refl; index = refl; index_room = refl }

pub declines : Declined
unfolding the_bytes append_of append_with times_of gather_by gathered_times gather_of gather_from take_line lines_of begin line_good name_good digits_good each
    name_in digits_in ticks_in decimal_from same append_to settle unchanged append_refusals judge_even first_of section_refusal offer_of
    items_refusal contents_of contents_from record_at judged keeps records_of last_of record_reader run then section items value_of judge_form form_known judge_day
    name_section chance_section judge_chance chance_in_range last_chance time_section limit_section outside unless in_range
declines = record {
  damage = refl;
  name = refl;
  chances = refl;
  falling = refl;
  beyond = refl;
  times = refl;
  no_line = refl;
  one_line = refl;
  bad_line = refl;
}

-- ---- logs

-- `A 100`, `B 7`, `A 90`, each with its newline
unfoldable pub the_log : List ℕ
the_log =
    0x41 ∷ 0x20 ∷ 0x31 ∷ 0x30 ∷ 0x30 ∷ 0x0a
    ∷ 0x42 ∷ 0x20 ∷ 0x37 ∷ 0x0a
    ∷ 0x41 ∷ 0x20 ∷ 0x39 ∷ 0x30 ∷ 0x0a
    ∷ []

-- so many lines `A 1`, and the bytes of `A 1048575` up to its last digit
unfoldable pub lines : ℕ → List ℕ
lines zero = []
lines (suc n) = 0x41 ∷ 0x20 ∷ 0x31 ∷ 0x0a ∷ lines n

unfoldable pub digits : List ℕ
digits = 0x41 ∷ 0x20 ∷ 0x31 ∷ 0x30 ∷ 0x34 ∷ 0x38 ∷ 0x35 ∷ 0x37 ∷ []

abbrev of_a : List ℕ → Gathered
of_a bytes = gather_of (0x41 ∷ []) bytes

pub record Logs : Type 0 where
  pub read : of_a the_log ≡ gathered (100 ∷ 90 ∷ [])
  pub other : gather_of (0x43 ∷ []) the_log ≡ gathered []
  pub empty : of_a [] ≡ gathered []
  pub no_newline : of_a (take 14 the_log) ≡ misread 11 10
  pub leading_zero : of_a (set (set the_log 2 0x30) 3 0x31) ≡ misread 11 0
  pub zero_ticks : of_a (set the_log 8 0x30) ≡ misread 11 6
  pub two_spaces : of_a (set the_log 2 0x20) ≡ misread 11 0
  pub no_name : of_a (set the_log 6 0x20) ≡ misread 11 6
  pub carriage_return : of_a (set the_log 4 0x0d) ≡ misread 11 0
  pub most : of_a (digits ++ (0x35 ∷ 0x0a ∷ [])) ≡ gathered (1_048_575 ∷ [])
  pub beyond : of_a (digits ++ (0x36 ∷ 0x0a ∷ [])) ≡ misread 11 0
  pub long_name : gather_of (replicate 32 0x41) (replicate 31 0x41 ++ lines 1) ≡ gathered (1 ∷ [])
  pub longer_name : gather_of (replicate 33 0x41) (replicate 32 0x41 ++ lines 1) ≡ misread 11 0
  pub all : of_a (lines 128) ≡ gathered (replicate 128 1)
  pub many : of_a (the_log ++ lines 127) ≡ misread 12 519
  pub many_of_another : gather_of (0x42 ∷ []) (the_log ++ lines 129) ≡ gathered (7 ∷ [])
  pub faulty_many : of_a (lines 128 ++ (0x41 ∷ 0x20 ∷ 0x30 ∷ 0x0a ∷ [])) ≡ misread 11 512
  pub first_decides : of_a (lines 129 ++ (0x0a ∷ [])) ≡ misread 12 512

pub logs : Logs
unfolding the_log lines digits gather_of gather_from take_line lines_of begin line_good name_good digits_good each in_range name_in digits_in ticks_in decimal_from same
logs = record {
  read = refl;
  other = refl;
  empty = refl;
  no_newline = refl;
  leading_zero = refl;
  zero_ticks = refl;
  two_spaces = refl;
  no_name = refl;
  carriage_return = refl;
  most = refl;
  beyond = refl;
  long_name = refl;
  longer_name = refl;
  all = refl;
  many = refl;
  many_of_another = refl;
  faulty_many = refl;
  first_decides = refl;
}

-- ---- indexes

abbrev entry : List ℕ → ℕ → IndexEntry
entry name start = record { name = name; start = start }

-- a record of a name at a place
abbrev at : ℕ → List ℕ → Placed
at start name =
    record { content = record { form = 2; day = 1; name = name; chances = []; times = []; limits = [] }; start = start; size = 33 }

-- names A, B and AB at 0, 33 and 66, then A again at 100
pub record Indexes : Type 0 where
  pub order : amend_all [] (at 0 (0x41 ∷ []) ∷ at 33 (0x42 ∷ []) ∷ at 66 (0x41 ∷ 0x42 ∷ []) ∷ at 100 (0x41 ∷ []) ∷ [])
      ≡ entry (0x41 ∷ []) 100 ∷ entry (0x41 ∷ 0x42 ∷ []) 66 ∷ entry (0x42 ∷ []) 33 ∷ []
  pub none : index_bytes [] ≡ 0 ∷ 0 ∷ []
  pub bytes : index_bytes (entry (0x41 ∷ 0x42 ∷ []) 66 ∷ []) ≡ 1 ∷ 0 ∷ 2 ∷ 0 ∷ 0x41 ∷ 0x42 ∷ 66 ∷ 0 ∷ 0 ∷ 0 ∷ []
  pub front : in_front (1 ∷ 2 ∷ []) (1 ∷ 2 ∷ 3 ∷ []) ≡ true
  pub short : in_front (1 ∷ 2 ∷ []) (1 ∷ []) ≡ false

pub indexes : Indexes
unfolding amend_all amend entry_of order_of index_bytes entry_bytes section_bytes number_bytes bytes_of joined in_front same
indexes = record { order = refl; none = refl; bytes = refl; front = refl; short = refl }

-- ---- the profile

-- a record with the profile's chances and so many times
abbrev timed : ℕ → Record
timed n = record { form = 2; day = 1; name = 0x41 ∷ []; chances = 1 ∷ 10 ∷ 100 ∷ 1_000 ∷ []; times = replicate n 100; limits = [] }

pub record InProfile : Type 0 where
  pub enough : in_profile (timed 32) ≡ true
  pub short : in_profile (timed 31) ≡ false

pub profiles : InProfile
unfolding in_profile same
profiles = record { enough = refl; short = refl }

-- ---- marks

pub record Marks : Type 0 where
  pub equal : mark_of (100 ∷ 100 ∷ []) ≡ few
  pub equal_seven : mark_of (replicate 7 100) ≡ few
  pub equal_eight : mark_of (replicate 8 100) ≡ flat
  pub equal_many : mark_of (replicate 9 100) ≡ flat
  pub few_times : mark_of (100 ∷ 100 ∷ 100 ∷ 100 ∷ 100 ∷ 100 ∷ 101 ∷ []) ≡ few
  pub many_times : mark_of (100 ∷ 100 ∷ 100 ∷ 100 ∷ 100 ∷ 100 ∷ 100 ∷ 101 ∷ []) ≡ normal
  pub letter_f : letter_of flat ≡ 0x46
  pub letter_s : letter_of few ≡ 0x53
  pub letter_n : letter_of normal ≡ 0x4e

pub marks : Marks
unfolding mark_from mark_of are_equal all_equal letter_of
marks = record {
  equal = refl;
  equal_seven = refl;
  equal_eight = refl;
  equal_many = refl;
  few_times = refl;
  many_times = refl;
  letter_f = refl;
  letter_s = refl;
  letter_n = refl;
}
