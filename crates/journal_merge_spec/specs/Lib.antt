-- The merge's definitions (request 2026-09): the records of the result, and what the merge answers and writes.
-- Those of a journal are in crate journal_spec.
pub mod Records
pub mod Merge
