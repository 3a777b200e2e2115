-- On which side of the mean the limits of a record lie, as its bits hold them. Definitions only.
use Rattle.std.specs.Prelude.{ℕ, ◌≤◌, ◌<◌, length, get_or, Float}
use Rattle.std.specs.Float.{binary64}
use Rattle.std.specs.Float.Ieee.{of_bits}
use Rattle.journal_spec.specs.Record.{Record, even_chance}
use Rattle.law_order.specs.Order.{AtMost, mean_at}

-- the limit at the place i, and its chance
abbrev pub limit_in : Record → ℕ → Float
limit_in r i = of_bits binary64 (get_or r.limits i 0)

abbrev pub chance_in : Record → ℕ → ℕ
chance_in r i = get_or r.chances i 0

-- Up to even chances a limit is not below the mean, from there on not above it.
pub record LimitsAbout (r : Record) : Type 0 where
  pub above : (i : ℕ) → i < length r.chances → chance_in r i ≤ even_chance → AtMost (mean_at r.times) (limit_in r i)
  pub below : (i : ℕ) → i < length r.chances → even_chance ≤ chance_in r i → AtMost (limit_in r i) (mean_at r.times)

-- No limit is below the mean.
pub record LimitsAbove (r : Record) : Type 0 where
  pub limits : (i : ℕ) → i < length r.chances → AtMost (mean_at r.times) (limit_in r i)
