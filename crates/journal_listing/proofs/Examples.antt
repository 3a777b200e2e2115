-- Document 01's example listed, whole and cut to 32 bytes, a journal with a fault, the two forms in one journal, the empty one, and the line of a record
-- with two chances: computed from the definitions. Assumes nothing.
use mathlib.Core.Path.{◌≡◌, refl}
use mathlib.Core.List.{List, [], ◌∷◌, ◌++◌}
use Prim.Native.Nat.{ℕ}
use lib.ListN.{take, set}
use lib.Ieee.{of_int, of_bits, to_bits, is_nan, eq, lt, add, mul, div}
use Rattle.sqrt.specs.Sqrt.{sqrt_in}
use Rattle.pxfm.specs.Inverfc.{f_erfcinv}
use Rattle.limit.specs.Times.{in_range, time_in_range, all_in_range, times_in_range, sum_of, squares_of}
use Rattle.limit.specs.Formula.{mean_of, spread_by, divisor_of, spread_of, quantile_of, limit_from, formula_of, figures_of, moments_of}
use Rattle.limit.specs.Limit.{form_known, chance_in_range, judge, limit_of, moments_of_times}
use Rattle.text_digits.specs.Hex.{glyph_of, digits, or_more, places_in, places_of, decimal_digits}
use Rattle.journal_spec.specs.Bytes.{value_of, joined}
use Rattle.journal_spec.specs.Refusals.{unless, outside, first_of}
use Rattle.journal_spec.specs.Reader.{run, then}
use Rattle.journal_spec.specs.Section.{items, section}
use Rattle.journal_spec.specs.Record.{Record, last_of, judge_form, judge_day, name_section, last_chance, judge_chance, chance_section, time_section}
use Rattle.journal_spec.specs.Record.{judge_limit, limit_section, record_reader}
use Rattle.journal_spec.specs.Profile.{keeps}
use Rattle.journal_spec.specs.Profile as P
use Rattle.journal_spec.specs.Scan.{records_of, judged, record_at, contents_from, contents_of, status_of}
use Rattle.journal_spec.specs.Read.{letter_of, all_equal, are_equal, mark_from, mark_of}
use Rattle.journal_listing.specs.Listing.{spaced, line_of, mean_bits, spread_bits, quoted_limit, quoted_limits, record_line, word_whole, word_torn, word_damaged}
use Rattle.journal_listing.specs.Listing.{state_line, record_lines, listing_of}

-- The 33 bytes of document 01.
abbrev example : List ℕ
example =
    1 ∷ 0 ∷ 1 ∷ 0 ∷ 1 ∷ 0 ∷ 0x41 ∷ 1 ∷ 0 ∷ 0x20 ∷ 0xa1 ∷ 0x07 ∷ 0 ∷ 2 ∷ 0 ∷ 0x64 ∷ 0 ∷ 0 ∷ 0 ∷ 0x64 ∷ 0 ∷ 0 ∷ 0 ∷ 1 ∷ 0 ∷
    0 ∷ 0 ∷ 0 ∷ 0 ∷ 0 ∷ 0 ∷ 0x59 ∷ 0x40 ∷ []

-- `A 1 S 4059000000000000 0000000000000000 500000:4059000000000000`: 2026-03 gives this line with the mark F, and by 2026-07 the example lists
-- as S
abbrev example_line : List ℕ
example_line =
    0x41 ∷ 0x20 ∷ 0x31 ∷ 0x20 ∷ 0x53 ∷ 0x20 ∷
    0x34 ∷ 0x30 ∷ 0x35 ∷ 0x39 ∷ 0x30 ∷ 0x30 ∷ 0x30 ∷ 0x30 ∷ 0x30 ∷ 0x30 ∷ 0x30 ∷ 0x30 ∷ 0x30 ∷ 0x30 ∷ 0x30 ∷ 0x30 ∷ 0x20 ∷
    0x30 ∷ 0x30 ∷ 0x30 ∷ 0x30 ∷ 0x30 ∷ 0x30 ∷ 0x30 ∷ 0x30 ∷ 0x30 ∷ 0x30 ∷ 0x30 ∷ 0x30 ∷ 0x30 ∷ 0x30 ∷ 0x30 ∷ 0x30 ∷ 0x20 ∷
    0x35 ∷ 0x30 ∷ 0x30 ∷ 0x30 ∷ 0x30 ∷ 0x30 ∷ 0x3a ∷
    0x34 ∷ 0x30 ∷ 0x35 ∷ 0x39 ∷ 0x30 ∷ 0x30 ∷ 0x30 ∷ 0x30 ∷ 0x30 ∷ 0x30 ∷ 0x30 ∷ 0x30 ∷ 0x30 ∷ 0x30 ∷ 0x30 ∷ 0x30 ∷ 0x0a ∷ []

pub record Examples : Type 0 where
  -- and `whole 1 33`
  pub whole_listed : listing_of P.plain example ≡ example_line ++ (0x77 ∷ 0x68 ∷ 0x6f ∷ 0x6c ∷ 0x65 ∷ 0x20 ∷ 0x31 ∷ 0x20 ∷ 0x33 ∷ 0x33 ∷ 0x0a ∷ [])
  -- `torn 0 0`
  pub cut_listed : listing_of P.plain (take 32 example) ≡ 0x74 ∷ 0x6f ∷ 0x72 ∷ 0x6e ∷ 0x20 ∷ 0x30 ∷ 0x20 ∷ 0x30 ∷ 0x0a ∷ []
  -- `damaged 7 25`: the limit's lowest bit is set
  pub fault_listed :
      listing_of P.plain (set example 25 1) ≡ 0x64 ∷ 0x61 ∷ 0x6d ∷ 0x61 ∷ 0x67 ∷ 0x65 ∷ 0x64 ∷ 0x20 ∷ 0x37 ∷ 0x20 ∷ 0x32 ∷ 0x35 ∷ 0x0a ∷ []
  -- the example as a record of form 2 after itself: both lines and `whole 2 66`
  pub forms_listed : listing_of P.plain (example ++ set example 0 2)
      ≡ example_line ++ (example_line ++ (0x77 ∷ 0x68 ∷ 0x6f ∷ 0x6c ∷ 0x65 ∷ 0x20 ∷ 0x32 ∷ 0x20 ∷ 0x36 ∷ 0x36 ∷ 0x0a ∷ []))
  -- and before itself: `damaged 13 33`
  pub old_form_listed : listing_of P.plain (set example 0 2 ++ example)
      ≡ 0x64 ∷ 0x61 ∷ 0x6d ∷ 0x61 ∷ 0x67 ∷ 0x65 ∷ 0x64 ∷ 0x20 ∷ 0x31 ∷ 0x33 ∷ 0x20 ∷ 0x33 ∷ 0x33 ∷ 0x0a ∷ []
  -- `whole 0 0`
  pub empty_listed : listing_of P.plain [] ≡ 0x77 ∷ 0x68 ∷ 0x6f ∷ 0x6c ∷ 0x65 ∷ 0x20 ∷ 0x30 ∷ 0x20 ∷ 0x30 ∷ 0x0a ∷ []

pub listed_examples : Examples
unfolding of_int of_bits to_bits is_nan eq lt add mul div sqrt_in f_erfcinv
    in_range time_in_range all_in_range times_in_range sum_of squares_of mean_of spread_by divisor_of spread_of quantile_of limit_from formula_of figures_of moments_of
    form_known chance_in_range judge limit_of moments_of_times glyph_of digits or_more places_in places_of decimal_digits
    value_of joined unless outside first_of run then items section
    last_of judge_form judge_day name_section last_chance judge_chance chance_section time_section judge_limit limit_section record_reader
    records_of judged record_at keeps contents_from contents_of status_of letter_of all_equal are_equal mark_from mark_of
    spaced line_of mean_bits spread_bits quoted_limit quoted_limits record_line word_whole word_torn word_damaged state_line record_lines listing_of
listed_examples = record {
  whole_listed = refl;
  cut_listed = refl;
  fault_listed = refl;
  forms_listed = refl;
  old_form_listed = refl;
  empty_listed = refl;
}

-- ---- two chances, and a day of four digits

-- `AB 9312 S 4059000000000000 402c48c6001f0ac0 1:4064e7277ee63bd0 1000:4061f67ac0872f3a`: mean, spread and the first limit are those of crate limit's
-- `form_cases`, the second limit is README's
abbrev two_chances : Record
two_chances = record {
  form = 2;
  day = 9_312;
  name = 0x41 ∷ 0x42 ∷ [];
  chances = 1 ∷ 1_000 ∷ [];
  times = 90 ∷ 110 ∷ [];
  limits = 0x4064_e727_7ee6_3bd0 ∷ 0x4061_f67a_c087_2f3a ∷ [];
}

pub two_chances_lem : record_line two_chances ≡
    0x41 ∷ 0x42 ∷ 0x20 ∷
    0x39 ∷ 0x33 ∷ 0x31 ∷ 0x32 ∷ 0x20 ∷
    0x53 ∷ 0x20 ∷
    0x34 ∷ 0x30 ∷ 0x35 ∷ 0x39 ∷ 0x30 ∷ 0x30 ∷ 0x30 ∷ 0x30 ∷ 0x30 ∷ 0x30 ∷ 0x30 ∷ 0x30 ∷ 0x30 ∷ 0x30 ∷ 0x30 ∷ 0x30 ∷ 0x20 ∷
    0x34 ∷ 0x30 ∷ 0x32 ∷ 0x63 ∷ 0x34 ∷ 0x38 ∷ 0x63 ∷ 0x36 ∷ 0x30 ∷ 0x30 ∷ 0x31 ∷ 0x66 ∷ 0x30 ∷ 0x61 ∷ 0x63 ∷ 0x30 ∷ 0x20 ∷
    0x31 ∷ 0x3a ∷ 0x34 ∷ 0x30 ∷ 0x36 ∷ 0x34 ∷ 0x65 ∷ 0x37 ∷ 0x32 ∷ 0x37 ∷ 0x37 ∷ 0x65 ∷ 0x65 ∷ 0x36 ∷ 0x33 ∷ 0x62 ∷ 0x64 ∷ 0x30 ∷ 0x20 ∷
    0x31 ∷ 0x30 ∷ 0x30 ∷ 0x30 ∷ 0x3a ∷ 0x34 ∷ 0x30 ∷ 0x36 ∷ 0x31 ∷ 0x66 ∷ 0x36 ∷ 0x37 ∷ 0x61 ∷ 0x63 ∷ 0x30 ∷ 0x38 ∷ 0x37 ∷ 0x32 ∷ 0x66 ∷ 0x33 ∷ 0x61 ∷ 0x0a ∷ []
unfolding of_int of_bits to_bits is_nan eq lt add mul div sqrt_in
    in_range time_in_range all_in_range times_in_range sum_of squares_of mean_of spread_by divisor_of spread_of moments_of form_known moments_of_times
    glyph_of digits or_more places_in places_of decimal_digits letter_of all_equal are_equal mark_from mark_of spaced line_of mean_bits spread_bits
    quoted_limit quoted_limits record_line
two_chances_lem = refl
