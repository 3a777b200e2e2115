-- The definitions that the contracts cite: a planner's line of a record, the planner's report, line by line, and a line by an index's entry.
-- `Figures` has the lines of one record's figures.
pub mod Slot
pub mod Report
pub mod Begin
pub mod Figures
