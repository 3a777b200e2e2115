-- Closed cases, computed: limits at whole ticks and a bit above and below, numbers below zero, ties, what is declined, and their texts.
-- Assumes nothing.
use mathlib.Core.Path.{◌≡◌, refl}
use mathlib.Core.Bool.{true, false}
use mathlib.Core.List.{[], ◌∷◌}
use lib.Count.{count_trailing_zeros}
use lib.ListN.{length}
use lib.Ieee.{binary64, odd, of_fields, of_bits}
use Rattle.text_digits.specs.Hex.{digits, glyph_of, or_more, places_in, places_of, decimal_digits}
use Rattle.std.specs.Prelude.{Some, None}
use Rattle.text_ticks.specs.Ticks.{counted, up_size, near_size, in_range, whole_by, ticks_up, ticks_near}
use Rattle.text_ticks.specs.Text.{hundredths, count_text, ticks_text, max_text}

-- rounded up: 100, the doubles beside it, and 143.70.., README's limit at 1,000 in a million
record Up : Type 0 where
  at_hundred : ticks_up (of_bits binary64 0x4059_0000_0000_0000) ≡ Some (counted false 100)
  above : ticks_up (of_bits binary64 0x4059_0000_0000_0001) ≡ Some (counted false 101)
  below : ticks_up (of_bits binary64 0x4058_ffff_ffff_ffff) ≡ Some (counted false 100)
  limit : ticks_up (of_bits binary64 0x4061_f67a_c087_2f3a) ≡ Some (counted false 144)
  tiny : ticks_up (of_bits binary64 1) ≡ Some (counted false 1)
  minus_half : ticks_up (of_bits binary64 0xbfe0_0000_0000_0000) ≡ Some (counted false 0)
  minus_more : ticks_up (of_bits binary64 0xbff8_0000_0000_0000) ≡ Some (counted true 1)
  minus_two : ticks_up (of_bits binary64 0xc000_0000_0000_0000) ≡ Some (counted true 2)

up : Up
unfolding count_trailing_zeros odd of_fields of_bits up_size in_range whole_by ticks_up
up =
    record {
      at_hundred = refl;
      above = refl;
      below = refl;
      limit = refl;
      tiny = refl;
      minus_half = refl;
      minus_more = refl;
      minus_two = refl;
    }

-- to the nearest: 100.5 and -1.5 are ties and go up; 0.75 and -0.75 do not tie
record Near : Type 0 where
  tie : ticks_near (of_bits binary64 0x4059_2000_0000_0000) ≡ Some (counted false 101)
  minus_tie : ticks_near (of_bits binary64 0xbff8_0000_0000_0000) ≡ Some (counted true 1)
  more : ticks_near (of_bits binary64 0x3fe8_0000_0000_0000) ≡ Some (counted false 1)
  minus_more : ticks_near (of_bits binary64 0xbfe8_0000_0000_0000) ≡ Some (counted true 1)

near : Near
unfolding count_trailing_zeros odd of_fields of_bits near_size in_range whole_by ticks_near
near = record { tie = refl; minus_tie = refl; more = refl; minus_more = refl }

-- 2 ^ 53, an infinity and a NaN
record Declined : Type 0 where
  large : ticks_up (of_bits binary64 0x4340_0000_0000_0000) ≡ None
  infinity : ticks_up (of_bits binary64 0x7ff0_0000_0000_0000) ≡ None
  none : ticks_near (of_bits binary64 0x7ff8_0000_0000_0000) ≡ None

declined : Declined
unfolding count_trailing_zeros odd of_fields of_bits up_size near_size in_range whole_by ticks_up ticks_near
declined = record { large = refl; infinity = refl; none = refl }

-- 1.44, -0.05 and a dash; and 1 - 2 ^ 53, which takes all the bytes that a text may have
record Text : Type 0 where
  slot : ticks_text (Some (counted false 144)) ≡ 49 ∷ 46 ∷ 52 ∷ 52 ∷ []
  minus : ticks_text (Some (counted true 5)) ≡ 45 ∷ 48 ∷ 46 ∷ 48 ∷ 53 ∷ []
  dash : ticks_text None ≡ 45 ∷ []
  longest : length (ticks_text (ticks_up (of_bits binary64 0xc33f_ffff_ffff_ffff))) ≡ max_text

text : Text
unfolding count_trailing_zeros odd of_fields of_bits digits glyph_of or_more places_in places_of decimal_digits up_size in_range whole_by ticks_up hundredths count_text
    ticks_text
text = record { slot = refl; minus = refl; dash = refl; longest = refl }
