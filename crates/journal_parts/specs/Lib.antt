-- A number in bytes, and what code that goes over records reads of the one at a place or at a slice's front, by its counts.
-- The record itself is defined in crate journal_spec.
pub mod Numbers
pub mod Plain
pub mod Spans
pub mod Front
