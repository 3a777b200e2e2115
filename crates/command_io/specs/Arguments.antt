-- Words that a program is handed: `--help`, white space, and a decimal number up to a largest one.
-- Assumes nothing.
use Rattle.std.specs.Prelude.{ℕ, ◌+◌, ◌-◌, ◌*◌, Bool, true, false, cond, List, [], ◌∷◌, ◌==◌, nat_lt, Option, Some, None}
use Rattle.text_digits.specs.Same.{same_bytes}

-- the word `--help`
unfoldable pub word_help : List ℕ
word_help = 0x2d ∷ 0x2d ∷ 0x68 ∷ 0x65 ∷ 0x6c ∷ 0x70 ∷ []

-- whether a word is `--help`
unfoldable pub is_help : List ℕ → Bool
is_help w = same_bytes w word_help

-- a space, or one of tab, line feed, vertical tab, form feed and carriage return
abbrev pub is_space : ℕ → Bool
is_space c = cond (c == 32) true (cond (nat_lt c 9) false (nat_lt c 14))

-- whether a word that has a byte already, if `inside`, has come to 0
abbrev pub is_zero : Bool → ℕ → Bool
is_zero inside n = cond inside (n == 0) false

-- the number n with the digit of the ASCII code c behind it; none behind a 0, so that no number has a zero in front; none if c is no digit
-- or the number is above `most`
abbrev pub with_digit : ℕ → Bool → ℕ → ℕ → Option ℕ
with_digit most inside n c =
    cond (is_zero inside n) None
    (cond (nat_lt c 48) None
    (cond (nat_lt 57 c) None
    (cond (nat_lt most (n * 10 + (c - 48))) None
    (Some (n * 10 + (c - 48))))))

-- what a word has come to, with one byte more: none stays none
abbrev pub digit_after : ℕ → Bool → Option ℕ → ℕ → Option ℕ
digit_after most inside (Some n) c = with_digit most inside n c
digit_after most inside None c = None

-- the same with all bytes of a text
unfoldable pub number_from : ℕ → Bool → Option ℕ → List ℕ → Option ℕ
number_from most inside r [] = r
number_from most inside r (c ∷ cs) = number_from most true (digit_after most inside r c) cs

-- the decimal number that is all of a text, at most `most`, with no zero in front; an empty text is none
unfoldable pub read_number : ℕ → List ℕ → Option ℕ
read_number most [] = None
read_number most (c ∷ cs) = number_from most false (Some 0) (c ∷ cs)
