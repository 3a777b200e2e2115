-- The laws for the trial's code: the line at a place, a pass over the log's lines, what is counted in it, and the index's entries.
-- Assumes nothing.
pub mod Passes
pub mod Counted
pub mod LowestChance
pub mod Padded
pub mod Indexed
pub mod Answered
pub mod Owned
pub mod Deciding
pub mod NotIndexed
pub mod Halving
pub mod OnePass
pub mod Tabled
pub mod AddedAll
pub mod InPieces
