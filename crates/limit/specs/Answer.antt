-- What the limit operation answers, in document 01's words: the limit itself, with mean, spread and quantile (document 02, 2026-03), or one
-- refusal number. `meaning` says which of the two each case of the code's answer is.
use Rattle.std.specs.Prelude.{ℕ, Result, Ok, Err}
use Rattle.refusals.specs.Refusals.{number_of}
use Rattle.refusals.specs.declared.Refusal.{Refusal}
use Rattle.limit.specs.declared.Moments.{Moments}
use Rattle.limit.specs.declared.Figures.{Figures}

-- the four figures, of which the limit is one, or one refusal number
pub data LimitResult : Type 0 where
  limited : Figures → LimitResult
  refused : ℕ → LimitResult

-- mean and spread alone, or one refusal number
pub data MomentsResult : Type 0 where
  worked : Moments → MomentsResult
  unworked : ℕ → MomentsResult

-- refusal 2: any form but 1 and 2 (document 02, 2026-04)
abbrev pub form_refusal : ℕ
form_refusal = 2

-- document 01's refusal 5: chance out of range
abbrev pub chance_refusal : ℕ
chance_refusal = 5

-- document 01's refusal 6: count or a time out of range
abbrev pub times_refusal : ℕ
times_refusal = 6

-- document 01's number and values for each case of the code's answer
unfoldable pub meaning : Result Figures Refusal → LimitResult
meaning (Ok f) = limited f
meaning (Err r) = refused (number_of r)

-- the same of mean and spread
unfoldable pub moments_meaning : Result Moments Refusal → MomentsResult
moments_meaning (Ok m) = worked m
moments_meaning (Err r) = unworked (number_of r)
