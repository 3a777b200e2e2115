-- The laws for the code that goes over an index's entries.
-- Assumes nothing.
pub mod Comparing
pub mod Indexed
pub mod Parsed
pub mod Telling
pub mod ByCounts
pub mod Seeking
pub mod LookedUp
pub mod Fitting
pub mod Putting
pub mod Opening
pub mod Amended
pub mod Meaning
