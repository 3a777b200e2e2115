-- Worked examples of the definitions, by computing them.
-- Assumes nothing.
use Rattle.std.proofs.Common.{◌≡◌, true, false, [], ◌∷◌, refl, Some, None}
use Rattle.text_digits.specs.Same.{same_bytes}
use Rattle.command_io.specs.Arguments.{word_help, is_help, number_from, read_number}
use Rattle.command_io.specs.Numbers.{closed_by, closed_of, turn_of, read_from, unread, numbers_of}
use Rattle.command_io.specs.Paths.{slash, folder_within, folder_end}

-- `--help`, and not `--helq`
help : is_help (0x2d ∷ 0x2d ∷ 0x68 ∷ 0x65 ∷ 0x6c ∷ 0x70 ∷ []) ≡ true
unfolding is_help word_help same_bytes
help = refl

not_help : is_help (0x2d ∷ 0x2d ∷ 0x68 ∷ 0x65 ∷ 0x6c ∷ 0x71 ∷ []) ≡ false
unfolding is_help word_help same_bytes
not_help = refl

-- 65535 is the largest day, 65536 is none; nor is `1 `
largest_day : read_number 65_535 (0x36 ∷ 0x35 ∷ 0x35 ∷ 0x33 ∷ 0x35 ∷ []) ≡ Some 65_535
unfolding read_number number_from
largest_day = refl

beyond_largest : read_number 65_535 (0x36 ∷ 0x35 ∷ 0x35 ∷ 0x33 ∷ 0x36 ∷ []) ≡ None
unfolding read_number number_from
beyond_largest = refl

space_behind : read_number 65_535 (0x31 ∷ 0x20 ∷ []) ≡ None
unfolding read_number number_from
space_behind = refl

-- `0` is a number, and `07` is none
zero : read_number 65_535 (0x30 ∷ []) ≡ Some 0
unfolding read_number number_from
zero = refl

zero_in_front : read_number 65_535 (0x30 ∷ 0x37 ∷ []) ≡ None
unfolding read_number number_from
zero_in_front = refl

-- ` 90`, a line feed, `110`: two numbers
two_ticks : numbers_of 1_000 (0x20 ∷ 0x39 ∷ 0x30 ∷ 0x0a ∷ 0x31 ∷ 0x31 ∷ 0x30 ∷ []) ≡ record { numbers = 90 ∷ 110 ∷ []; inside = false; pending = Some 0 }
unfolding numbers_of closed_of closed_by read_from turn_of unread
two_ticks = refl

-- `90 x 5`: one number before the first word that is none
then_none : numbers_of 1_000 (0x39 ∷ 0x30 ∷ 0x20 ∷ 0x78 ∷ 0x20 ∷ 0x35 ∷ []) ≡ record { numbers = 90 ∷ []; inside = true; pending = None }
unfolding numbers_of closed_of closed_by read_from turn_of unread
then_none = refl

-- `0 10 07`: two numbers before the word with a zero in front
zeros_in_front : numbers_of 1_000 (0x30 ∷ 0x20 ∷ 0x31 ∷ 0x30 ∷ 0x20 ∷ 0x30 ∷ 0x37 ∷ []) ≡ record { numbers = 0 ∷ 10 ∷ []; inside = true; pending = None }
unfolding numbers_of closed_of closed_by read_from turn_of unread
zeros_in_front = refl

-- `a/b/c` is in `a/b/`, `/c` in `/`, and `c` in no folder that it names
folder_two : folder_end (0x61 ∷ 0x2f ∷ 0x62 ∷ 0x2f ∷ 0x63 ∷ []) ≡ 4
unfolding folder_end folder_within slash
folder_two = refl

folder_root : folder_end (0x2f ∷ 0x63 ∷ []) ≡ 1
unfolding folder_end folder_within slash
folder_root = refl

folder_none_named : folder_end (0x63 ∷ []) ≡ 0
unfolding folder_end folder_within slash
folder_none_named = refl
