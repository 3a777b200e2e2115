-- The line that says what became of a merge: `merged` and the result's length; `declined` and 9, 13 with its place in the result, or 16 and
-- whose end is torn; or `damaged`, number and place, and whose fault it is.
use Rattle.std.specs.Prelude.{ℕ, List, [], ◌∷◌}
use Rattle.text_digits.specs.Hex.{decimal_digits}
use Rattle.command_io.specs.declared.ending.Status.{Status}
use Rattle.command_io.specs.declared.ending.Status.TheVariants as S
use Rattle.journal_listing.specs.Listing.{line_of, word_damaged, word_declined}
use Rattle.journal_merge_spec.specs.Merge.{Whose, of_first, of_second, MergeResult, merged, damaged, declined_of, declined_at, declined}

-- the word `merged`
unfoldable pub word_merged : List ℕ
word_merged = 0x6d ∷ 0x65 ∷ 0x72 ∷ 0x67 ∷ 0x65 ∷ 0x64 ∷ []

-- `first` or `second`
unfoldable pub whose_word : Whose → List ℕ
whose_word of_first = 0x66 ∷ 0x69 ∷ 0x72 ∷ 0x73 ∷ 0x74 ∷ []
whose_word of_second = 0x73 ∷ 0x65 ∷ 0x63 ∷ 0x6f ∷ 0x6e ∷ 0x64 ∷ []

-- the line
unfoldable pub verdict_line : MergeResult → List ℕ
verdict_line (merged n) = line_of (word_merged ∷ decimal_digits n ∷ [])
verdict_line (declined n) = line_of (word_declined ∷ decimal_digits n ∷ [])
verdict_line (declined_at n p) = line_of (word_declined ∷ decimal_digits n ∷ decimal_digits p ∷ [])
verdict_line (declined_of w n) = line_of (word_declined ∷ decimal_digits n ∷ whose_word w ∷ [])
verdict_line (damaged w n p) = line_of (word_damaged ∷ decimal_digits n ∷ decimal_digits p ∷ whose_word w ∷ [])

-- the exit status that it decides
unfoldable pub verdict_status : MergeResult → Status
verdict_status (merged n) = S.Done
verdict_status (declined n) = S.Refused
verdict_status (declined_at n p) = S.Refused
verdict_status (declined_of w n) = S.Refused
verdict_status (damaged w n p) = S.Refused
