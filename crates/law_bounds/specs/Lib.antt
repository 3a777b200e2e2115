-- What the bounds of this crate say, in the order in which the definitions build on each other.
pub mod Interval
pub mod Ranges
pub mod Quantile
