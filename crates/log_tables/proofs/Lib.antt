-- The last arm of a `match`, and a table in rows.
pub mod Arms
pub mod CutRows
