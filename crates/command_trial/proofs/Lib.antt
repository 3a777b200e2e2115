-- The laws of the pieces that a log is tried in, and of a turn.
-- Assumes nothing.
pub mod Whole
pub mod Turning
