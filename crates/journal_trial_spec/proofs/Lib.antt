-- The laws of a trial: every line is counted once, overs are links, the lowest chance, the refusals' order, and the sums over the answers.
-- `Trials` has the theorems of the two calls, `Answers` each refusal and its number exactly where it is due, `Gathering` that a log is read here as
-- where times are gathered from it.
pub mod Tallies
pub mod Lines
pub mod Gathering
pub mod Names
pub mod Counts
pub mod Overrun
pub mod Rows
pub mod Trials
pub mod Answers
pub mod Together
pub mod Pieces
-- examples
pub mod Examples
