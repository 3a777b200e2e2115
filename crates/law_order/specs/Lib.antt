-- What a planner takes for granted about limits and bands, the quantile at every double, and where `erf_core`'s pairs and answers lie.
pub mod Order
pub mod Everywhere
pub mod Ranges
