-- What the reading functions answer, by what the journal's readers find in the bytes from a place on.
-- Each answer keeps of the found value what the code after it needs.
use Rattle.std.specs.Prelude.{ℕ, ◌+◌, ◌*◌, List, [], length, drop, eqb, Result}
use Rattle.limit.specs.Answer.{MomentsResult}
use Rattle.limit.specs.Limit.{limit_of_moments}
use Rattle.journal_spec.specs.Bytes.{number_at}
use Rattle.journal_spec.specs.Refusals.{limit_refusal, unless, outside}
use Rattle.journal_spec.specs.Record.{judge_limit}
use Rattle.journal_spec.specs.Reader.{Found, done, field, run}
use Rattle.journal_spec.specs.Section.{section, items}
use Rattle.journal_spec.specs.Section as Spec
use Rattle.limit.specs.Sums.{sums_of}
use Rattle.refusals.specs.Refusals.{number_of}
use Rattle.journal.specs.Rules.{item_refusal, ruled}
use Rattle.journal.specs.declared.section.SectionRule.{SectionRule}
use Rattle.journal.specs.declared.section.Section.{Section}
use Rattle.journal.specs.Told.{Stopped, kept_of}

-- a field: its value
abbrev pub field_read : Found ℕ → Result ℕ Stopped
field_read = kept_of (λ x at. x)

-- the field of w bytes at a place, by its refusal
unfoldable pub field_by : ℕ → (ℕ → ℕ) → ℕ → List ℕ → Result ℕ Stopped
field_by w refusal at b = field_read (run (field w refusal done) at (drop at b))

-- the same refused by n outside low to high
abbrev pub field_at : ℕ → ℕ → ℕ → ℕ → ℕ → List ℕ → Result ℕ Stopped
field_at w low high n at b = field_by w (outside low high n) at b

-- a section: the place after it and the sums of its numbers
abbrev pub section_kept : List ℕ → ℕ → Section
section_kept xs at = record { next = at; sums = sums_of xs }

abbrev pub section_read : Found (List ℕ) → Result Section Stopped
section_read = kept_of section_kept

-- the n numbers of w bytes of a rule's section at a place
unfoldable pub numbers_at : ℕ → SectionRule → ℕ → ℕ → List ℕ → Result Section Stopped
numbers_at w r n at b = section_read (run (items w (item_refusal r.rising r.low r.high (number_of r.refusal)) n []) at (drop at b))

-- the section of a rule at a place, with numbers of w bytes
unfoldable pub section_at : ℕ → SectionRule → ℕ → List ℕ → Result Section Stopped
section_at w r at b = section_read (run (section (ruled w r)) at (drop at b))

-- ---- limits

-- the limits: the place after them
abbrev pub limits_read : Found (List ℕ) → Result ℕ Stopped
limits_read = kept_of (λ xs at. at)

-- the refusal of a limit's bits, by mean and spread and the chance that stands at a place
unfoldable pub limit_refusal_at : List ℕ → MomentsResult → ℕ → ℕ → ℕ
limit_refusal_at b w chance bits = judge_limit (limit_of_moments w (number_at 4 chance b)) bits

-- the refusal of a limit after those before it: its chance is as many places on as there are limits before it
unfoldable pub limit_item : List ℕ → ℕ → MomentsResult → List ℕ → ℕ → ℕ
limit_item b chances w before = limit_refusal_at b w (chances + length before * 4)

-- the n limits at a place, where the chances stand from another on
unfoldable pub limits_at : ℕ → ℕ → MomentsResult → ℕ → List ℕ → Result ℕ Stopped
limits_at n chances w at b = limits_read (run (items 8 (limit_item b chances w) n []) at (drop at b))

-- the limits' section by the number of the chances, their place, mean and spread
unfoldable pub limits_by : List ℕ → ℕ → ℕ → MomentsResult → Spec.Section
limits_by b n chances w = record { width = 8; count = λ k. unless (eqb k n) limit_refusal; item = limit_item b chances w }

-- that section at a place
unfoldable pub limit_section_at : ℕ → ℕ → MomentsResult → ℕ → List ℕ → Result ℕ Stopped
limit_section_at n chances w at b = limits_read (run (section (limits_by b n chances w)) at (drop at b))
