-- The laws of the planner's report: a slot's line in columns; entries by their positions, the report with a journal's own index, and that every line
-- fits its buffer.

-- a slot's line
pub mod Columns
pub mod Quoting
pub mod Slots
-- the report
pub mod Positions
pub mod Widths
pub mod Shown
pub mod Made
pub mod Fits
pub mod FiguresFit
-- examples
pub mod SlotExamples
pub mod Examples
