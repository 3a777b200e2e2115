-- The laws, one idea to a file, in the order in which they build on each other. The request is met in `Mirror`: `mirror`, and for bit
-- patterns in `Patterns`: `mirror_patterns`.
pub mod Finer
pub mod Sign
pub mod Back
pub mod Cuts
pub mod Roots
pub mod Logs
pub mod Sides
pub mod Mirror
pub mod Patterns
pub mod Cases
