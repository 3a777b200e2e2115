-- The line that says what became of an append: `extended` and the new length; `declined` and the refusal's number; `log`, number and place of a
-- line of the log that is refused; or `damaged`, number and place, as in the listing.
use Rattle.std.specs.Prelude.{ℕ, List, [], ◌∷◌}
use Rattle.text_digits.specs.Hex.{decimal_digits}
use Rattle.command_io.specs.declared.ending.Status.{Status}
use Rattle.command_io.specs.declared.ending.Status.TheVariants as S
use Rattle.journal_spec.specs.Scan as Scan
use Rattle.journal_spec.specs.Request.{AppendResult, extended, declined, declined_at, damaged}
use Rattle.journal_listing.specs.Listing.{line_of, word_declined, state_line}

-- the words `extended` and `log`
unfoldable pub word_extended : List ℕ
word_extended = 0x65 ∷ 0x78 ∷ 0x74 ∷ 0x65 ∷ 0x6e ∷ 0x64 ∷ 0x65 ∷ 0x64 ∷ []

unfoldable pub word_log : List ℕ
word_log = 0x6c ∷ 0x6f ∷ 0x67 ∷ []

-- the line
unfoldable pub verdict_line : AppendResult → List ℕ
verdict_line (extended n) = line_of (word_extended ∷ decimal_digits n ∷ [])
verdict_line (declined n) = line_of (word_declined ∷ decimal_digits n ∷ [])
verdict_line (declined_at n p) = line_of (word_log ∷ decimal_digits n ∷ decimal_digits p ∷ [])
verdict_line (damaged n p) = state_line (Scan.damaged n p)

-- the exit status that it decides
unfoldable pub verdict_status : AppendResult → Status
verdict_status (extended n) = S.Done
verdict_status (declined n) = S.Refused
verdict_status (declined_at n p) = S.Refused
verdict_status (damaged n p) = S.Refused
