-- What the merge's code asks of its bytes and answers: records at a place, a pass over both journals, and each case of an answer.
-- The merge itself is defined in crate journal_merge_spec.
pub mod Records
pub mod Passes
pub mod Answers
