-- The lines of a record's figures, as `report record` prints them: mean, spread and each limit by its bits, exactly, and in whole ticks, which are
-- milliseconds with two decimals. Definitions only.
use Rattle.std.specs.Prelude.{ℕ, List, [], ◌∷◌, ◌++◌}
use Rattle.std.specs.Float.{binary64}
use Rattle.std.specs.Float.Ieee.{of_bits}
use Rattle.text_digits.specs.Hex.{decimal_digits, hex_digits}
use Rattle.text_ticks.specs.Ticks.{ticks_up, ticks_near}
use Rattle.text_ticks.specs.Text.{ticks_text}
use Rattle.text_decimal.specs.Decimal.{exact_text}
use Rattle.journal_spec.specs.Log.{space}

-- `limit at `, ` in a million: bits `
abbrev pub limit_word : List ℕ
limit_word = 0x6c ∷ 0x69 ∷ 0x6d ∷ 0x69 ∷ 0x74 ∷ space ∷ 0x61 ∷ 0x74 ∷ space ∷ []

abbrev pub chance_word : List ℕ
chance_word =
    space ∷ 0x69 ∷ 0x6e ∷ space ∷ 0x61 ∷ space ∷ 0x6d ∷ 0x69 ∷ 0x6c ∷ 0x6c ∷ 0x69 ∷ 0x6f ∷ 0x6e ∷ 0x3a ∷ space ∷ 0x62 ∷ 0x69 ∷ 0x74 ∷ 0x73 ∷ space ∷ []

-- `mean bits `, `spread bits `
abbrev pub mean_word : List ℕ
mean_word = 0x6d ∷ 0x65 ∷ 0x61 ∷ 0x6e ∷ space ∷ 0x62 ∷ 0x69 ∷ 0x74 ∷ 0x73 ∷ space ∷ []

abbrev pub spread_word : List ℕ
spread_word = 0x73 ∷ 0x70 ∷ 0x72 ∷ 0x65 ∷ 0x61 ∷ 0x64 ∷ space ∷ 0x62 ∷ 0x69 ∷ 0x74 ∷ 0x73 ∷ space ∷ []

-- `, exactly `
abbrev pub exact_word : List ℕ
exact_word = 0x2c ∷ space ∷ 0x65 ∷ 0x78 ∷ 0x61 ∷ 0x63 ∷ 0x74 ∷ 0x6c ∷ 0x79 ∷ space ∷ []

-- ` ticks, rounded up `, ` ticks, to the nearest `
abbrev pub up_word : List ℕ
up_word =
    space ∷ 0x74 ∷ 0x69 ∷ 0x63 ∷ 0x6b ∷ 0x73 ∷ 0x2c ∷ space ∷ 0x72 ∷ 0x6f ∷ 0x75 ∷ 0x6e ∷ 0x64 ∷ 0x65 ∷ 0x64 ∷ space ∷ 0x75 ∷ 0x70 ∷ space ∷ []

abbrev pub near_word : List ℕ
near_word =
    space ∷ 0x74 ∷ 0x69 ∷ 0x63 ∷ 0x6b ∷ 0x73 ∷ 0x2c ∷ space ∷ 0x74 ∷ 0x6f ∷ space ∷ 0x74 ∷ 0x68 ∷ 0x65 ∷ space ∷ 0x6e ∷ 0x65 ∷ 0x61 ∷ 0x72 ∷ 0x65 ∷ 0x73
    ∷ 0x74 ∷ space ∷ []

-- ` ms` and a line end
abbrev pub last_word : List ℕ
last_word = space ∷ 0x6d ∷ 0x73 ∷ 0x0a ∷ []

-- behind a text the double with some bits: its bits, and its exact decimal
unfoldable pub double_text : List ℕ → ℕ → List ℕ
double_text what bits = what ++ hex_digits 16 bits ++ exact_word ++ exact_text (of_bits binary64 bits)

-- the line of a limit, rounded up
unfoldable pub limit_line : ℕ → ℕ → List ℕ
limit_line chance limit =
    limit_word ++ decimal_digits chance ++ double_text chance_word limit ++ up_word ++ ticks_text (ticks_up (of_bits binary64 limit)) ++ last_word

-- the line of a mean or a spread, to the nearest tick
unfoldable pub moment_line : List ℕ → ℕ → List ℕ
moment_line what bits = double_text what bits ++ near_word ++ ticks_text (ticks_near (of_bits binary64 bits)) ++ last_word

-- the most bytes of these lines: nine and six of a limit's chance, twenty more words, 16 digits, ten, 63 of its decimal, 19, nine of its ticks and four
abbrev pub max_figure : ℕ
max_figure = 156
