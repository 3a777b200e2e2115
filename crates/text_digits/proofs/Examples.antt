-- Closed cases, computed: numbers as text and text as numbers. Assumes nothing.
use mathlib.Core.Path.{◌≡◌, refl}
use mathlib.Core.List.{[], ◌∷◌}
use Rattle.text_digits.specs.Hex.{glyph_of, digits, hex_digits, or_more, places_in, places_of, decimal_digits, digit_of, after_digit, read_digits, read_hex}
use Rattle.std.specs.Prelude.{Ok, Err}
use Rattle.text_digits.specs.declared.read.HexError.TheVariants as H

-- 4059000000000000, the bits of 100
hundred : hex_digits 16 0x4059000000000000
    ≡ 52 ∷ 48 ∷ 53 ∷ 57 ∷ 48 ∷ 48 ∷ 48 ∷ 48 ∷ 48 ∷ 48 ∷ 48 ∷ 48 ∷ 48 ∷ 48 ∷ 48 ∷ 48 ∷ []
unfolding digits glyph_of
hundred = refl

-- 500000
half : decimal_digits 500000 ≡ 53 ∷ 48 ∷ 48 ∷ 48 ∷ 48 ∷ 48 ∷ []
unfolding digits glyph_of or_more places_in places_of decimal_digits
half = refl

-- 0 has one digit
nought : decimal_digits 0 ≡ 48 ∷ []
unfolding digits glyph_of or_more places_in places_of decimal_digits
nought = refl

-- "7fF": the capital F at place 2 is no digit; two digits are 127; four are too many for the bytes
capital : read_hex (55 ∷ 102 ∷ 70 ∷ []) 0 3 ≡ Err (H.NoDigit 2)
unfolding read_hex read_digits after_digit digit_of
capital = refl

two : read_hex (55 ∷ 102 ∷ 70 ∷ []) 0 2 ≡ Ok 127
unfolding read_hex read_digits after_digit digit_of
two = refl

short : read_hex (55 ∷ 102 ∷ 70 ∷ []) 0 4 ≡ Err H.Short
unfolding read_hex
short = refl
