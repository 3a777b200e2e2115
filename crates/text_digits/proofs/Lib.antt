-- The laws of digits and of texts compared, for this crate's proofs and for those who read what it wrote; closed cases.
pub mod Writing
pub mod Putting
pub mod Counting
pub mod Reading
pub mod Comparing
mod Examples
