-- The definitions that the contracts of the C interface cite.
-- Those of the functions behind it are in their own crates.
pub mod Append
pub mod Band
pub mod Index
pub mod Journal
pub mod Limit
pub mod Line
pub mod Merge
pub mod Trial
