-- The definitions of the square root: the root itself, what its steps promise each other, and that it is the nearest double.
-- In the order in which they build on each other.
pub mod Sqrt
pub mod Steps
pub mod Nearest
