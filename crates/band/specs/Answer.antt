-- What the band answers, in document 02's words (2026-11): both ends, or one refusal number.
-- `meaning` says which of the two each case of the code's answer is.
use Rattle.std.specs.Prelude.{ℕ, Result, Ok, Err}
use Rattle.refusals.specs.Refusals.{number_of}
use Rattle.refusals.specs.declared.Refusal.{Refusal}
use Rattle.band.specs.declared.Ends.{Ends}

-- document 02's answer: the low and the high end, or one refusal number
pub data BandResult : Type 0 where
  banded : Ends → BandResult
  refused : ℕ → BandResult

-- refusal 18: the share out of range
abbrev pub share_refusal : ℕ
share_refusal = 18

-- document 02's number and values for each case of the code's answer
unfoldable pub meaning : Result Ends Refusal → BandResult
meaning (Ok e) = banded e
meaning (Err r) = refused (number_of r)
