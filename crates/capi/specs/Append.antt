-- Append's answer as the C interface gives it, three words; what its options mean; and what a call with them leaves.
-- The first word says which case it is, the others hold its values, 0 where there is none.
use Rattle.std.specs.Prelude.{ℕ, ◌/◌, ◌%◌, List, [], ◌∷◌, cond, eqb}
use Rattle.std.proofs.Math.Option.{Option, none, some}
use Rattle.journal_spec.specs.Profile.{Rule, plain, profile}
use Rattle.journal_spec.specs.Request.{AppendResult, extended, declined, declined_at, damaged}
use Rattle.journal_index.specs.Outcome.{handed}

-- 0 and the journal's length after the call; 1 and the number by which it is declined; 2, the fault's number and place; or 3, the number by
-- which a line of the log is refused and its place in the log
unfoldable pub append_words : AppendResult → List ℕ
append_words (extended len) = 0 ∷ len ∷ 0 ∷ []
append_words (declined number) = 1 ∷ number ∷ 0 ∷ []
append_words (declined_at number place) = 3 ∷ number ∷ place ∷ []
append_words (damaged number place) = 2 ∷ number ∷ place ∷ []

-- options: the 2 in them asks for the profile
unfoldable pub rule_of : ℕ → Rule
rule_of options = cond (eqb (options / 2 % 2) 1) profile plain

-- and the 1 says that an index is handed
abbrev pub handed_by : ℕ → List ℕ → Option (List ℕ)
handed_by options b = handed (eqb (options % 2) 1) b

-- the index's buffer after a call: as it was where none is handed
unfoldable pub left_in : List ℕ → Option (List ℕ) → List ℕ
left_in b none = b
left_in b (some left) = left
