-- What the trial's code reads and answers, as its private contracts say it. The trial itself is defined in crate journal_trial_spec.
-- Assumes nothing.
pub mod Counting
pub mod Lowest
pub mod Answers
pub mod Owning
pub mod Strangers
pub mod Adding
pub mod Together
