-- Lemmas on truth values, and on the order of two numbers.
pub mod Tests
pub mod Orders
