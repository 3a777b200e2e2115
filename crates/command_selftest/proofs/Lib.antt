-- The laws of this crate: of counts that go on from a place, and of what an append leaves.
-- Assumes nothing.
pub mod Counting
pub mod Leaving
