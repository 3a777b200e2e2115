-- A text as it is shown: printable ASCII as it is, every other byte as \x and its two hexadecimal digits, so that no control byte
-- and no line end of a file's name reaches a terminal. Assumes nothing.
use Rattle.std.specs.Prelude.{ℕ, Bool, cond, ◌&&◌, List, [], ◌∷◌, ◌++◌, nat_lt}
use Rattle.text_digits.specs.Hex.{hex_digits}

-- printable ASCII, 20 to 7e
abbrev pub is_printable : ℕ → Bool
is_printable c = nat_lt 31 c && nat_lt c 127

-- a byte's escape: a backslash, x and two hexadecimal digits
abbrev pub escape_of : ℕ → List ℕ
escape_of c = 0x5c ∷ 0x78 ∷ hex_digits 2 c

-- a byte as it is shown
abbrev pub shown_byte : ℕ → List ℕ
shown_byte c = cond (is_printable c) (c ∷ []) (escape_of c)

-- all bytes of a text
unfoldable pub shown_of : List ℕ → List ℕ
shown_of [] = []
shown_of (c ∷ cs) = shown_byte c ++ shown_of cs
