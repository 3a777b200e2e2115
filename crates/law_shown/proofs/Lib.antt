-- `Multiples`: a double of at least 2 ^ -8 is a whole number of 2 ^ -60, and what is such a number is shown. `Sum`: the sum of a number from 1 / 2 on and
-- another is one too. `Spread`: a spread is 0 or at least 2 ^ -8. `Limits` has the theorem of the figures,
-- `Records` that of a record. `Sides` and `Slots` say on which side of the mean a record's limits lie, and its slots, in whole ticks: `standing_about`
-- and `slots_about` of every record that may stand, `taken_above` and `slots_above` of every one that append takes.
pub mod Multiples
pub mod Sum
pub mod Spread
pub mod Limits
pub mod Records
pub mod Sides
pub mod Slots
