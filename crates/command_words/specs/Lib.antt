-- The definition that the contracts cite: the refusals in words.
-- Assumes nothing.
pub mod Refusals
