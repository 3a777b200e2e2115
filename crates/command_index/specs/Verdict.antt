-- The line that says what became of an index: `indexed` and its length where it is made; `own` and its length where it is the volume's;
-- `declined` and 14 or 15; or `damaged`, number and place, as in the listing.
use Rattle.std.specs.Prelude.{ℕ, List, [], ◌∷◌}
use Rattle.text_digits.specs.Hex.{decimal_digits}
use Rattle.command_io.specs.declared.ending.Status.{Status}
use Rattle.command_io.specs.declared.ending.Status.TheVariants as S
use Rattle.journal_spec.specs.Scan as Scan
use Rattle.journal_spec.specs.MakeIndex.{IndexResult, made, declined, damaged}
use Rattle.journal_spec.specs.CheckIndex.{IndexCheck, own}
use Rattle.journal_spec.specs.CheckIndex as Check
use Rattle.refusals.specs.Refusals.{number_of}
use Rattle.journal_index.specs.declared.IndexError.{IndexError}
use Rattle.journal_index.specs.declared.IndexError.TheVariants as E
use Rattle.journal_listing.specs.Listing.{line_of, word_declined, state_line}

-- the words `indexed` and `own`
unfoldable pub word_indexed : List ℕ
word_indexed = 0x69 ∷ 0x6e ∷ 0x64 ∷ 0x65 ∷ 0x78 ∷ 0x65 ∷ 0x64 ∷ []

unfoldable pub word_own : List ℕ
word_own = 0x6f ∷ 0x77 ∷ 0x6e ∷ []

-- a word and a number
unfoldable pub numbered : List ℕ → ℕ → List ℕ
numbered word n = line_of (word ∷ decimal_digits n ∷ [])

-- what became of an index that was to be made
unfoldable pub made_line : IndexResult → List ℕ
made_line (made n) = numbered word_indexed n
made_line (declined n) = numbered word_declined n
made_line (damaged n p) = state_line (Scan.damaged n p)

-- whether an index is the volume's, by the length that the entries of the buffer come to
unfoldable pub checked_line : ℕ → IndexCheck → List ℕ
checked_line size own = numbered word_own size
checked_line size (Check.declined n) = numbered word_declined n
checked_line size (Check.damaged n p) = state_line (Scan.damaged n p)

-- the same of an index that is not made, or not the volume's, as the code has it
unfoldable pub error_line : IndexError → List ℕ
error_line (E.Declined r) = numbered word_declined (number_of r)
error_line (E.Damaged f) = state_line (Scan.damaged (number_of f.refusal) f.place)

-- the exit status that each decides
unfoldable pub made_status : IndexResult → Status
made_status (made n) = S.Done
made_status (declined n) = S.Refused
made_status (damaged n p) = S.Refused

unfoldable pub checked_status : IndexCheck → Status
checked_status own = S.Done
checked_status (Check.declined n) = S.Refused
checked_status (Check.damaged n p) = S.Refused
