-- The laws behind the root's proofs, one idea to a file, in the order in which they build on each other, and worked cases.
-- `RootSteps` has the theorem that the standard's steps make the root, `Nearest` that the root is the nearest double, `Negative` that no
-- negative one is nearer.
pub mod Squares
pub mod Extending
pub mod Checking
pub mod OneRounding
pub mod Scaling
pub mod Special
pub mod RootSteps
pub mod Midpoints
pub mod Counted
pub mod Nearest
pub mod Negative
pub mod Cases
