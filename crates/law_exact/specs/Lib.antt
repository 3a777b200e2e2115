-- What the laws of this crate say, in the order in which they build on each other.
pub mod Scaled
pub mod Dekker
pub mod FastSum
