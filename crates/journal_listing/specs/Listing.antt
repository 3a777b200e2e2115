-- The listing of a journal as bytes of text (document 01, Marks and listing): a line for each record, then the line of the end state.
-- Numbers are decimal, mean, spread and limits 16 lowercase hexadecimal digits; single spaces stand between words, and byte 0a ends each line.
use Rattle.std.specs.Prelude.{ℕ, List, [], ◌∷◌, ◌++◌, map, length}
use Rattle.std.specs.Float.{binary64}
use Rattle.std.specs.Float.Ieee.{to_bits}
use Rattle.limit.specs.Answer.{MomentsResult, worked, unworked}
use Rattle.limit.specs.Limit.{moments_of_times}
use Rattle.text_digits.specs.Hex.{hex_digits, decimal_digits}
use Rattle.journal_spec.specs.Bytes.{joined}
use Rattle.journal_spec.specs.Record.{Record}
use Rattle.journal_spec.specs.Profile.{Rule}
use Rattle.journal_spec.specs.Log.{space, newline}
use Rattle.journal_spec.specs.Scan.{records_of, Contents, standing, faulty, contents_of, ScanResult, whole, torn, damaged, status_of}
use Rattle.journal_spec.specs.Read.{letter_of, mark_of}

-- Words by single spaces.
unfoldable pub spaced : List (List ℕ) → List ℕ
spaced [] = []
spaced (w ∷ []) = w
spaced (w ∷ v ∷ ws) = w ++ (space ∷ spaced (v ∷ ws))

-- A line of words.
unfoldable pub line_of : List (List ℕ) → List ℕ
line_of ws = spaced ws ++ (newline ∷ [])

-- `chance:limit`, the chance decimal and the limit as 16 hexadecimal digits.
unfoldable pub quoted_limit : ℕ → ℕ → List ℕ
quoted_limit chance limit = decimal_digits chance ++ (0x3a ∷ hex_digits 16 limit)

-- Each chance with its limit.
unfoldable pub quoted_limits : List ℕ → List ℕ → List (List ℕ)
quoted_limits [] limits = []
quoted_limits (c ∷ cs) [] = []
quoted_limits (c ∷ cs) (l ∷ ls) = quoted_limit c l ∷ quoted_limits cs ls

-- The bits of mean and spread; 0 where they are refused, which they are for no record that stands.
unfoldable pub mean_bits : MomentsResult → ℕ
mean_bits (worked m) = to_bits binary64 m.mean
mean_bits (unworked n) = 0

unfoldable pub spread_bits : MomentsResult → ℕ
spread_bits (worked m) = to_bits binary64 m.spread
spread_bits (unworked n) = 0

-- A record's line: name, day, mark, mean and spread of the times under the record's form (document 02, 2026-03), then `chance:limit` for each
-- chance.
unfoldable pub record_line : Record → List ℕ
record_line r =
    let moments = moments_of_times r.form r.times in
    line_of
    (r.name
    ∷ decimal_digits r.day
    ∷ (letter_of (mark_of r.times) ∷ [])
    ∷ hex_digits 16 (mean_bits moments)
    ∷ hex_digits 16 (spread_bits moments)
    ∷ quoted_limits r.chances r.limits)

-- The words `whole`, `torn` and `damaged`.
unfoldable pub word_whole : List ℕ
word_whole = 0x77 ∷ 0x68 ∷ 0x6f ∷ 0x6c ∷ 0x65 ∷ []

unfoldable pub word_torn : List ℕ
word_torn = 0x74 ∷ 0x6f ∷ 0x72 ∷ 0x6e ∷ []

unfoldable pub word_damaged : List ℕ
word_damaged = 0x64 ∷ 0x61 ∷ 0x6d ∷ 0x61 ∷ 0x67 ∷ 0x65 ∷ 0x64 ∷ []

-- And `declined`, which no listing has: programs that append, merge or make an index say it of what they refuse.
unfoldable pub word_declined : List ℕ
word_declined = 0x64 ∷ 0x65 ∷ 0x63 ∷ 0x6c ∷ 0x69 ∷ 0x6e ∷ 0x65 ∷ 0x64 ∷ []

-- The line of the end state: its word, then the number of records and the committed length, or the fault's number and place.
unfoldable pub state_line : ScanResult → List ℕ
state_line (whole n committed) = line_of (word_whole ∷ decimal_digits n ∷ decimal_digits committed ∷ [])
state_line (torn n committed) = line_of (word_torn ∷ decimal_digits n ∷ decimal_digits committed ∷ [])
state_line (damaged n p) = line_of (word_damaged ∷ decimal_digits n ∷ decimal_digits p ∷ [])

-- The records' lines; none where there is a fault.
unfoldable pub record_lines : Contents → List ℕ
record_lines (standing ps committed) = joined (map record_line (records_of ps))
record_lines (faulty n p) = []

-- The listing by what a journal of a length holds.
abbrev pub listing_by : ℕ → Contents → List ℕ
listing_by len c = record_lines c ++ state_line (status_of len c)

-- The listing of some bytes, all of them the journal, by a rule.
unfoldable pub listing_of : Rule → List ℕ → List ℕ
listing_of rule bytes = listing_by (length bytes) (contents_of rule bytes (length bytes))
