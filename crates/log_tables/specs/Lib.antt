-- The logarithms' two tables as lists, and a row of both.
pub mod PowTables
pub mod LogTable
pub mod Rows
