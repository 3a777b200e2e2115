-- What the code that makes an index answers, in the definition's words.
-- Assumes nothing.
use Rattle.std.specs.Prelude.{ℕ, List, Result, Ok, Err}
use Rattle.refusals.specs.Refusals.{number_of}
use Rattle.journal_spec.specs.MakeIndex.{IndexResult, made, declined, damaged, Made}
use Rattle.journal_index.specs.declared.IndexError.{IndexError}
use Rattle.journal_index.specs.declared.IndexError.TheVariants as E

unfoldable pub made_meaning : Result ℕ IndexError → IndexResult
made_meaning (Ok n) = made n
made_meaning (Err (E.Declined r)) = declined (number_of r)
made_meaning (Err (E.Damaged f)) = damaged (number_of f.refusal) f.place

-- the answer, and the buffer after it
unfoldable pub made_outcome : Result ℕ IndexError → List ℕ → Made
made_outcome r b = record { answer = made_meaning r; buffer = b }
