-- The laws of the reader of lines: one byte of a log, and pieces of it.
-- Assumes nothing.
pub mod Turns
pub mod Runs
pub mod Pieces
pub mod Shape
pub mod Own
pub mod ByLines
pub mod Standing
pub mod Missed
