-- The places of a journal's records, sorted by some of their bytes: the bytes that decide, and what sorted means.
-- Assumes nothing.
pub mod Starts
pub mod Keys
pub mod Sorted
