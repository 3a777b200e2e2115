-- What a report prints of a double, its exact decimal and its whole ticks: neither is a dash. Definitions only.
use Rattle.std.specs.Prelude.{ℕ, ◌≤◌, ◌<◌, ◌≡◌, true, length, get_or, Float}
use Rattle.std.specs.Float.{binary64}
use Rattle.std.specs.Float.Ieee.{of_bits, to_bits}
use Rattle.limit.specs.Times.{sum_of, squares_of}
use Rattle.limit.specs.Formula.{mean_of, spread_of, formula_of}
use Rattle.text_ticks.specs.Ticks.{ticks_up, ticks_near}
use Rattle.text_ticks.specs.Text.{ticks_text}
use Rattle.text_ticks.specs.Meaning.{RoundsUp, RoundsNear}
use Rattle.text_decimal.specs.Decimal.{is_shown, exact_text}
use Rattle.text_decimal.specs.Meaning.{IsExact}
use Rattle.journal_spec.specs.Record.{Record}

-- x has at most 60 binary digits behind the point and is below 2 ^ 53 in size, and its text is x, no more and no less
pub record Exact (x : Float) : Type 0 where
  pub shown : is_shown x ≡ true
  pub exact : IsExact x (exact_text x)

-- the most bytes of a mean or a spread in milliseconds, as 10485.75, and of a limit, as -30001.56
abbrev pub max_moment : ℕ
max_moment = 8

abbrev pub max_slot : ℕ
max_slot = 9

-- and it has a nearest tick, or a least one that is not below it, whose text is that short
pub record ShownNear (x : Float) : Type 0 where
  pub exact : Exact x
  pub ticks : RoundsNear x
  pub short : length (ticks_text (ticks_near x)) ≤ max_moment

pub record ShownUp (x : Float) : Type 0 where
  pub exact : Exact x
  pub ticks : RoundsUp x
  pub short : length (ticks_text (ticks_up x)) ≤ max_slot

-- under a form, for n times with sum s and sum of squares q, at the chance c
pub record ShownUnder (form n s q c : ℕ) : Type 0 where
  pub mean : ShownNear (mean_of n s)
  pub spread : ShownNear (spread_of form n s q)
  pub limit : ShownUp (formula_of form n s q c)

-- of a record, by the patterns that a report prints: mean and spread of its times under its form, and each of its limits
pub record ShownRecord (r : Record) : Type 0 where
  pub mean : ShownNear (of_bits binary64 (to_bits binary64 (mean_of (length r.times) (sum_of r.times))))
  pub spread : ShownNear (of_bits binary64 (to_bits binary64 (spread_of r.form (length r.times) (sum_of r.times) (squares_of r.times))))
  pub limits : (i : ℕ) → i < length r.limits → ShownUp (of_bits binary64 (get_or r.limits i 0))
