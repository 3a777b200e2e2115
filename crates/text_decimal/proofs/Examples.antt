-- Closed cases, computed: zeros, halves, the double nearest to a tenth, the paper's worked limit, the ends of what is shown, and dashes. Assumes nothing.
use mathlib.Core.Path.{◌≡◌, refl}
use mathlib.Core.List.{[], ◌∷◌, ◌++◌}
use lib.Count.{count_trailing_zeros}
use lib.ListN.{length}
use lib.Ieee.{binary64, odd, of_fields, of_bits}
use Rattle.text_digits.specs.Hex.{digits, glyph_of, or_more, places_in, places_of, decimal_digits}
use Rattle.text_ticks.specs.Ticks.{in_range}
use Rattle.text_decimal.specs.Decimal.{fraction_text, signed_text, is_shown, exact_text, max_text}

-- 0, -0, 0.5, -2.5 and 100; 0.1, whose double has 55 digits behind the point; 143.70.., the paper's worked limit, with 44
record Shown : Type 0 where
  zero : exact_text (of_bits binary64 0) ≡ 48 ∷ []
  minus_zero_lem : exact_text (of_bits binary64 0x8000_0000_0000_0000) ≡ 45 ∷ 48 ∷ []
  half : exact_text (of_bits binary64 0x3fe0_0000_0000_0000) ≡ 48 ∷ 46 ∷ 53 ∷ []
  minus_more : exact_text (of_bits binary64 0xc004_0000_0000_0000) ≡ 45 ∷ 50 ∷ 46 ∷ 53 ∷ []
  hundred : exact_text (of_bits binary64 0x4059_0000_0000_0000) ≡ 49 ∷ 48 ∷ 48 ∷ []
  tenth : exact_text (of_bits binary64 0x3fb9_9999_9999_999a)
      ≡ 48 ∷ 46 ∷ digits 10 55 1000000000000000055511151231257827021181583404541015625
  limit : exact_text (of_bits binary64 0x4061_f67a_c087_2f3a) ≡ decimal_digits 143 ++ (46 ∷ digits 10 44 70248438266008861319278366863727569580078125)

shown : Shown
unfolding count_trailing_zeros odd of_fields of_bits digits glyph_of or_more places_in places_of decimal_digits in_range fraction_text signed_text is_shown exact_text
shown =
    record {
      zero = refl;
      minus_zero_lem = refl;
      half = refl;
      minus_more = refl;
      hundred = refl;
      tenth = refl;
      limit = refl;
    }

-- 2 ^ -60 is shown, 2 ^ -61 is not; 2 ^ 53 - 1 is shown, 2 ^ 53 is not; an infinity and a NaN are not
-- -2 ^ -60 takes all the bytes that a text may have
record Ends : Type 0 where
  last_place : exact_text (of_bits binary64 0x3c30_0000_0000_0000) ≡ 48 ∷ 46 ∷ digits 10 60 867361737988403547205962240695953369140625
  beyond_it : exact_text (of_bits binary64 0x3c20_0000_0000_0000) ≡ 45 ∷ []
  last_whole : exact_text (of_bits binary64 0x433f_ffff_ffff_ffff) ≡ digits 10 16 9007199254740991
  too_large : exact_text (of_bits binary64 0x4340_0000_0000_0000) ≡ 45 ∷ []
  infinity : exact_text (of_bits binary64 0x7ff0_0000_0000_0000) ≡ 45 ∷ []
  none : exact_text (of_bits binary64 0x7ff8_0000_0000_0000) ≡ 45 ∷ []
  longest : length (exact_text (of_bits binary64 0xbc30_0000_0000_0000)) ≡ max_text

ends : Ends
unfolding count_trailing_zeros odd of_fields of_bits digits glyph_of or_more places_in places_of decimal_digits in_range fraction_text signed_text is_shown exact_text
ends = record { last_place = refl; beyond_it = refl; last_whole = refl; too_large = refl; infinity = refl; none = refl; longest = refl }
