-- The entries of an index in a buffer of any bytes: as they are read, places among them, whether they are an index, and an index amended.
-- Assumes nothing.
pub mod Entries
pub mod Places
pub mod Shape
pub mod Amending
pub mod Answers
