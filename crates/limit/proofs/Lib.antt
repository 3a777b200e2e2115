-- The laws behind the limit's proofs, one idea to a file.
-- `Plausible`, `Adding` and `Agreement` are what a reader of times that keeps its own sums cites, `Gathered` what a caller of `gather` does.
pub mod InRange
pub mod Cauchy
pub mod Bounds
pub mod Plausible
pub mod Scatter
pub mod Divisor
pub mod Adding
mod Gathering
pub mod Gathered
pub mod Agreement
pub mod Exact
pub mod Inputs
pub mod Meaning
pub mod Cases
pub mod Refusals
