-- The definition that the contracts cite: the exit status of an end state.
-- Assumes nothing.
pub mod Ends
