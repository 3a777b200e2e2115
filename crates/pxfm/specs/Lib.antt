-- The definitions of the port, a file for each file of the Rust; Argument, Bins, Checked and Steps are of our own.
-- In the order in which they build on each other.
pub mod DoubleDouble
pub mod Common
pub mod Polyeval
pub mod PowExec
pub mod FastLogDd
pub mod Bins
pub mod Rationals
pub mod Argument
pub mod Inverfc
pub mod Inverf
pub mod Checked
pub mod Steps
