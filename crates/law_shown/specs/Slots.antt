-- Slots beside the mean, in whole ticks: a slot is the limit rounded up, and a report shows the mean to the nearest tick. Definitions only.
use Rattle.std.specs.Prelude.{ℕ, ◌≤◌, ◌<◌, ◌≡◌, T, length, Some, Float}
use Rattle.text_ticks.specs.declared.whole.Count.{Count}
use Rattle.text_ticks.specs.Ticks.{ticks_up, ticks_near}
use Rattle.text_ticks.specs.Meaning.{int_of, le_z}
use Rattle.journal_spec.specs.Record.{Record, even_chance}
use Rattle.law_order.specs.Order.{mean_at}
use Rattle.law_shown.specs.Sides.{limit_in, chance_in}

-- Both have whole ticks, and the slot's are not fewer, as whole numbers.
pub record SlotAbove (mean limit : Float) : Type 0 where
  pub shown : Count
  pub slot : Count
  pub shown_is : ticks_near mean ≡ Some shown
  pub slot_is : ticks_up limit ≡ Some slot
  pub not_below : T (le_z (int_of shown) (int_of slot))

-- Up to even chances no slot of a record is below the tick that is shown as its mean.
pub record SlotsAbout (r : Record) : Type 0 where
  pub slots : (i : ℕ) → i < length r.chances → chance_in r i ≤ even_chance → SlotAbove (mean_at r.times) (limit_in r i)

-- No slot of a record is.
pub record SlotsAbove (r : Record) : Type 0 where
  pub slots : (i : ℕ) → i < length r.chances → SlotAbove (mean_at r.times) (limit_in r i)
