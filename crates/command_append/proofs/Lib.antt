-- The laws that the program's proofs cite, and in `FileAfter` what its file holds.
-- Assumes nothing.
pub mod Committed
pub mod WrittenPart
pub mod FileAfter
