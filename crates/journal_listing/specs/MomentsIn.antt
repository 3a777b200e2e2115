-- Mean and spread of the record that stands at a place, by the places of its sections. Definitions only.
use Rattle.std.specs.Prelude.{ℕ, List, Option, Some, None}
use Rattle.limit.specs.Answer.{MomentsResult, unworked, times_refusal}
use Rattle.limit.specs.Limit.{moments_of_times}
use Rattle.journal_spec.specs.Bytes.{number_at}
use Rattle.journal_parts.specs.Spans.{spans_at, all_of, numbers_of}
use Rattle.journal_parts.specs.declared.spans.Sections.{Sections}

-- by the sections of the record, if they stand
unfoldable pub moments_by : ℕ → List ℕ → Option Sections → MomentsResult
moments_by at b (Some s) = moments_of_times (number_at 2 at b) (numbers_of 4 s.times b)
moments_by at b None = unworked times_refusal

-- under the record's own form (document 02, 2026-03 and 2026-04); where no record stands there are no times
unfoldable pub moments_in : ℕ → List ℕ → MomentsResult
moments_in at b = moments_by at b (all_of (spans_at at b))
