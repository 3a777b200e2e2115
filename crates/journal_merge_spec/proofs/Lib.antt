-- The laws of the merge. `ByDay` has those of two lists by day, `Only` that they determine the result, `Rows` the refusals' order, `Answers` each
-- answer and its number exactly where it is due, `Merged` the theorem of the merge, `Onward` demand 3's sentence from a merged journal.
pub mod Tally
pub mod Dropping
pub mod ByDay
pub mod Parted
pub mod Only
pub mod Following
pub mod Falls
pub mod Inputs
pub mod Rows
pub mod Answers
pub mod Merged
pub mod Onward
-- examples
pub mod Examples
pub mod Offices
-- for the proofs of code
pub mod MergeLoop
