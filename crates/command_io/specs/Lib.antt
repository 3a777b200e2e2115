-- The definitions that the contracts cite: the word --help, decimal numbers, numbers separated by white space, a path's folder, and gathered output.
pub mod Arguments
pub mod Numbers
pub mod Paths
pub mod Gather
pub mod Words
pub mod Status
pub mod Shown
pub mod Options
pub mod Kinds
