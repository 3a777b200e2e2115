-- Bounds of the port's numbers. Three layers, in the order in which they build on each other, one idea to a file:
-- intervals that antt computes, and that they hold what the doubles' operations give (Arithmetic to Tests);
-- an estimate of each definition of the port, written by the definition's own steps (Rationals to Core);
-- the quantile (`quantile_in`, `quantile_finite`, `quantile_at_most_four`).
pub mod Arithmetic
pub mod Rounding
pub mod Operations
pub mod Sums
pub mod Products
pub mod Residuals
pub mod Estimate
pub mod Root
pub mod FastSqrt
pub mod Whole
pub mod Pairs
pub mod Tests
pub mod Rationals
pub mod Table
pub mod Logarithm
pub mod Reach
pub mod Asymptotic
pub mod Tail
pub mod Core
pub mod Quantile
