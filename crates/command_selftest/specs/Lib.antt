-- The definitions of this crate.
-- Those of the functions that are replayed are in their own crates.
pub mod Replay
