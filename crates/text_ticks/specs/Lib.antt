-- The definitions that the contracts cite: whole ticks of a double, rounded up or to the nearest, and their text in milliseconds; and what
-- the laws say of them.
pub mod Ticks
pub mod Halves
pub mod Text
pub mod Meaning
