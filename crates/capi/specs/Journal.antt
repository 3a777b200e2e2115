-- The journal's answers as the C interface gives them: scan's in three words, a part's in two, a mark's in one.
-- No mark's letter is a refusal's number: those are below 0x41.
use Rattle.std.specs.Prelude.{ℕ, List, [], ◌∷◌}
use Rattle.journal_spec.specs.Scan.{ScanResult, whole, torn, damaged}
use Rattle.journal_spec.specs.Read.{Part, MarkResult, marked, unmarked, letter_of}

-- 0 whole or 1 torn, the number of records and the committed length; or 2, the fault's number and place
unfoldable pub scan_words : ScanResult → List ℕ
scan_words (whole records committed) = 0 ∷ records ∷ committed ∷ []
scan_words (torn records committed) = 1 ∷ records ∷ committed ∷ []
scan_words (damaged number place) = 2 ∷ number ∷ place ∷ []

-- the place of the part's first byte, and its bytes' number
unfoldable pub part_words : Part → List ℕ
part_words p = p.start ∷ p.size ∷ []

-- the mark's letter, or the refusal's number
unfoldable pub mark_word : MarkResult → ℕ
mark_word (marked m) = letter_of m
mark_word (unmarked n) = n
