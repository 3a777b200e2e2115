-- Laws of whole ticks: roundings of a fraction, the fraction of a bit pattern, and what is asked of the code.
pub mod Division
pub mod Patterns
pub mod Range
pub mod Halving
pub mod Least
pub mod Near
pub mod Longest
mod Examples
