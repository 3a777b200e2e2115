-- The definitions that the contracts of the program cite: the part that an append writes, and the verdict's line.
pub mod Extension
pub mod Verdict
