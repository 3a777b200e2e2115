-- Numbers as digits of ASCII, at any width and base: what is written, and what reading gives or refuses.
-- Assumes nothing.
use Rattle.std.specs.Prelude.{ℕ, zero, suc, ◌+◌, ◌-◌, ◌*◌, ◌/◌, ◌%◌, Bool, true, false, cond, List, [], ◌∷◌, ◌++◌, leb, ltb, length, get_or, drop, replicate, Option, Some, None, Result, Ok, Err}
use Rattle.text_digits.specs.declared.read.HexError.{HexError}
use Rattle.text_digits.specs.declared.read.HexError.TheVariants as H
use Rattle.text_digits.specs.declared.write.Decimal.{Decimal}

-- the ASCII code of a digit below 16: 0 to 9, then a to f
unfoldable pub glyph_of : ℕ → ℕ
glyph_of d = cond (ltb d 10) (48 + d) (87 + d)

-- the last k digits of n in base b, the most significant first
unfoldable pub digits : ℕ → ℕ → ℕ → List ℕ
digits b zero n = []
digits b (suc k) n = digits b k (n / b) ++ (glyph_of (n % b) ∷ [])

-- the last k hexadecimal digits of n
abbrev pub hex_digits : ℕ → ℕ → List ℕ
hex_digits k n = digits 16 k n

-- one digit, or one more than there are in the rest; the rest is a function, so that it is only worked out where it is asked
unfoldable pub or_more : Bool → (Unit {0} → ℕ) → ℕ
or_more true rest = 1
or_more false rest = suc (rest tt)

-- how many digits n has in base b, if it has at most `most` + 1
unfoldable pub places_in : ℕ → ℕ → ℕ → ℕ
places_in b zero n = 1
places_in b (suc most) n = or_more (ltb n b) (λ u. places_in b most (n / b))

-- how many decimal digits n has: n itself bounds their number
unfoldable pub places_of : ℕ → ℕ
places_of n = places_in 10 n n

-- n in decimal digits, with no zero in front
unfoldable pub decimal_digits : ℕ → List ℕ
decimal_digits n = digits 10 (places_of n) n

-- the decimal digits of n at the start of twenty bytes, zeros behind them, and their number
unfoldable pub decimal_of : ℕ → Decimal
decimal_of n = record { digits = decimal_digits n ++ drop (places_of n) (replicate 20 0); count = places_of n }

-- the value of the lowercase hexadecimal digit with the ASCII code c
unfoldable pub digit_of : ℕ → Option ℕ
digit_of c =
    cond (ltb c 48) None
    (cond (ltb c 58) (Some (c - 48))
    (cond (ltb c 97) None
    (cond (ltb c 103) (Some (c - 87))
    None)))

-- a digit's value goes on, anything else is refused with its place
unfoldable pub after_digit : Option ℕ → ℕ → (ℕ → Result ℕ HexError) → Result ℕ HexError
after_digit (Some d) place next = next d
after_digit None place next = Err (H.NoDigit place)

-- the number that k hexadecimal digits from a place on make, behind the number n of those before them
unfoldable pub read_digits : ℕ → List ℕ → ℕ → ℕ → Result ℕ HexError
read_digits zero s place n = Ok n
read_digits (suc k) s place n = after_digit (digit_of (get_or s place 0)) place (λ d. read_digits k s (place + 1) (n * 16 + d))

-- the number in `width` hexadecimal digits from a place on: too wide above 16 digits, short where the bytes run out
unfoldable pub read_hex : List ℕ → ℕ → ℕ → Result ℕ HexError
read_hex s place width =
    cond (ltb 16 width) (Err H.TooWide)
    (cond (leb (place + width) (length s)) (read_digits width s place 0)
    (Err H.Short))
