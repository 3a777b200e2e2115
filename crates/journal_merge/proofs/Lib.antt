-- The laws that the merge's code needs: of a record at a place, of the search, of a step, of the two passes, and of the answers.
-- Assumes nothing.
mod Reading
mod Search
mod Steps
mod Pass
mod Outcomes
pub mod Meaning
