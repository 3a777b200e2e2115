-- Closed cases: the lines of one record, in columns with all its limits, with the chances 1,000 and 7 asked for, and by tabs. 90 and 110 have the mean 100
-- and the sample spread 14.14 .., and the limits 167.22 .. and 143.70 .. (crate limit's `form_cases`, README): in ticks of 0.01 ms. Assumes nothing.
use mathlib.Core.Path.{◌≡◌, refl}
use mathlib.Core.Bool.{true, false}
use mathlib.Core.List.{[], ◌∷◌}
use lib.Count.{count_trailing_zeros}
use lib.Ieee.{odd, of_fields, of_int, of_bits, to_bits, div}
use Rattle.text_digits.specs.Hex.{digits, glyph_of, or_more, places_in, places_of, decimal_digits}
use Rattle.sqrt.specs.Sqrt.{sqrt_in}
use Rattle.limit.specs.Times.{in_range, time_in_range, all_in_range, times_in_range, sum_of, squares_of}
use Rattle.limit.specs.Formula.{mean_of, spread_by, divisor_of, spread_of, moments_of}
use Rattle.limit.specs.Limit.{form_known, moments_of_times}
use Rattle.text_dates.specs.Calendar.{date_of}
use Rattle.text_dates.specs.Iso.{iso_of}
use Rattle.text_ticks.specs.Ticks as W
use Rattle.text_ticks.specs.Text.{hundredths, count_text, ticks_text}
use Rattle.journal_spec.specs.Record.{Record}
use Rattle.journal_spec.specs.Read.{letter_of, all_equal, are_equal, mark_from, mark_of}
use Rattle.journal_listing.specs.Listing.{mean_bits, spread_bits}
use Rattle.journal_report.specs.Slot.{gap, fill, column, name_column, near_text, slot_text, quotes_of, limit_for, quote_columns, asked_columns, limit_columns}
use Rattle.journal_report.specs.Slot.{front_columns, figure_columns, slot_line}

-- 29 February 2000 is day 59
abbrev two : Record
two = record {
  form = 2;
  day = 59;
  name = 0x41 ∷ 0x42 ∷ [];
  chances = 1 ∷ 1_000 ∷ [];
  times = 90 ∷ 110 ∷ [];
  limits = 0x4064_e727_7ee6_3bd0 ∷ 0x4061_f67a_c087_2f3a ∷ [];
}

pub record SlotLines : Type 0 where
  -- `AB   2000-02-29 S   2     1.00     0.14           1:1.68        1000:1.44`
  pub all : slot_line false 4 [] two
      ≡ 0x41 ∷ 0x42 ∷ 0x20 ∷ 0x20 ∷ 0x20 ∷ 0x32 ∷ 0x30 ∷ 0x30 ∷ 0x30 ∷ 0x2d ∷ 0x30 ∷ 0x32 ∷ 0x2d ∷ 0x32 ∷ 0x39 ∷ 0x20 ∷ 0x53 ∷ 0x20 ∷ 0x20 ∷ 0x20
      ∷ 0x32 ∷ 0x20 ∷ 0x20 ∷ 0x20 ∷ 0x20 ∷ 0x20 ∷ 0x31 ∷ 0x2e ∷ 0x30 ∷ 0x30 ∷ 0x20 ∷ 0x20 ∷ 0x20 ∷ 0x20 ∷ 0x20 ∷ 0x30 ∷ 0x2e ∷ 0x31 ∷ 0x34 ∷ 0x20
      ∷ 0x20 ∷ 0x20 ∷ 0x20 ∷ 0x20 ∷ 0x20 ∷ 0x20 ∷ 0x20 ∷ 0x20 ∷ 0x20 ∷ 0x20 ∷ 0x31 ∷ 0x3a ∷ 0x31 ∷ 0x2e ∷ 0x36 ∷ 0x38 ∷ 0x20 ∷ 0x20 ∷ 0x20 ∷ 0x20
      ∷ 0x20 ∷ 0x20 ∷ 0x20 ∷ 0x20 ∷ 0x31 ∷ 0x30 ∷ 0x30 ∷ 0x30 ∷ 0x3a ∷ 0x31 ∷ 0x2e ∷ 0x34 ∷ 0x34 ∷ 0x0a ∷ []
  -- `AB   2000-02-29 S   2     1.00     0.14        1000:1.44              7:-`
  pub asked : slot_line false 4 (1_000 ∷ 7 ∷ []) two
      ≡ 0x41 ∷ 0x42 ∷ 0x20 ∷ 0x20 ∷ 0x20 ∷ 0x32 ∷ 0x30 ∷ 0x30 ∷ 0x30 ∷ 0x2d ∷ 0x30 ∷ 0x32 ∷ 0x2d ∷ 0x32 ∷ 0x39 ∷ 0x20 ∷ 0x53 ∷ 0x20 ∷ 0x20 ∷ 0x20
      ∷ 0x32 ∷ 0x20 ∷ 0x20 ∷ 0x20 ∷ 0x20 ∷ 0x20 ∷ 0x31 ∷ 0x2e ∷ 0x30 ∷ 0x30 ∷ 0x20 ∷ 0x20 ∷ 0x20 ∷ 0x20 ∷ 0x20 ∷ 0x30 ∷ 0x2e ∷ 0x31 ∷ 0x34 ∷ 0x20
      ∷ 0x20 ∷ 0x20 ∷ 0x20 ∷ 0x20 ∷ 0x20 ∷ 0x20 ∷ 0x20 ∷ 0x31 ∷ 0x30 ∷ 0x30 ∷ 0x30 ∷ 0x3a ∷ 0x31 ∷ 0x2e ∷ 0x34 ∷ 0x34 ∷ 0x20 ∷ 0x20 ∷ 0x20 ∷ 0x20
      ∷ 0x20 ∷ 0x20 ∷ 0x20 ∷ 0x20 ∷ 0x20 ∷ 0x20 ∷ 0x20 ∷ 0x20 ∷ 0x20 ∷ 0x20 ∷ 0x37 ∷ 0x3a ∷ 0x2d ∷ 0x0a ∷ []
  -- the same by tabs
  pub tabs : slot_line true 4 [] two
      ≡ 0x41 ∷ 0x42 ∷ 0x09 ∷ 0x32 ∷ 0x30 ∷ 0x30 ∷ 0x30 ∷ 0x2d ∷ 0x30 ∷ 0x32 ∷ 0x2d ∷ 0x32 ∷ 0x39 ∷ 0x09 ∷ 0x53 ∷ 0x09 ∷ 0x32 ∷ 0x09 ∷ 0x31 ∷ 0x2e
      ∷ 0x30 ∷ 0x30 ∷ 0x09 ∷ 0x30 ∷ 0x2e ∷ 0x31 ∷ 0x34 ∷ 0x09 ∷ 0x31 ∷ 0x3a ∷ 0x31 ∷ 0x2e ∷ 0x36 ∷ 0x38 ∷ 0x09 ∷ 0x31 ∷ 0x30 ∷ 0x30 ∷ 0x30 ∷ 0x3a
      ∷ 0x31 ∷ 0x2e ∷ 0x34 ∷ 0x34 ∷ 0x0a ∷ []

pub slot_lines : SlotLines
unfolding count_trailing_zeros odd of_fields of_int of_bits to_bits div digits glyph_of or_more places_in places_of decimal_digits sqrt_in
    in_range time_in_range all_in_range times_in_range sum_of squares_of mean_of spread_by divisor_of spread_of moments_of form_known moments_of_times
    date_of iso_of W.up_size W.near_size W.in_range W.whole_by W.ticks_up W.ticks_near hundredths count_text ticks_text letter_of all_equal are_equal mark_from mark_of
    mean_bits spread_bits gap fill column name_column near_text slot_text quotes_of limit_for quote_columns asked_columns limit_columns
    front_columns figure_columns slot_line
slot_lines = record { all = refl; asked = refl; tabs = refl }

-- name, date and mark alone
pub front_columns_lem : front_columns false 4 two
    ≡ 0x41 ∷ 0x42 ∷ 0x20 ∷ 0x20 ∷ 0x20 ∷ 0x32 ∷ 0x30 ∷ 0x30 ∷ 0x30 ∷ 0x2d ∷ 0x30 ∷ 0x32 ∷ 0x2d ∷ 0x32 ∷ 0x39 ∷ 0x20 ∷ 0x53 ∷ []
unfolding digits glyph_of date_of iso_of letter_of all_equal are_equal mark_from mark_of gap fill name_column front_columns
front_columns_lem = refl
