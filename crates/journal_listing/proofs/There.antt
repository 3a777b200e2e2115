-- Mean and spread of what stands at a place, by whether a record does. Assumes nothing.
use mathlib.Core.Path.{◌≡◌, refl}
use Prim.Native.Nat.{ℕ}
use mathlib.Core.List.{List}
use Rattle.std.specs.Prelude.{Some, None}
use Rattle.limit.specs.Answer.{unworked, times_refusal}
use Rattle.limit.specs.Limit.{moments_of_times}
use Rattle.journal_spec.specs.Bytes.{number_at}
use Rattle.journal_parts.specs.Spans.{spans_at, all_of, numbers_of}
use Rattle.journal_parts.specs.declared.spans.Sections.{Sections}
use Rattle.journal_listing.specs.MomentsIn.{moments_by, moments_in}

pub moments_none : (at : ℕ) (b : List ℕ) → all_of (spans_at at b) ≡ None → unworked times_refusal ≡ moments_in at b
unfolding moments_in moments_by
moments_none at b e = rw e refl

pub moments_there : (at : ℕ) (b : List ℕ) (s : Sections) → all_of (spans_at at b) ≡ Some s
    → moments_of_times (number_at 2 at b) (numbers_of 4 s.times b) ≡ moments_in at b
unfolding moments_in moments_by
moments_there at b s e = rw e refl
