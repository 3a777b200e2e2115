-- The reader of the log's lines as a fold over bytes: one line, and the times of a name.
-- What a log is, by its lines, stands in journal_spec's Log; the laws in proofs/ say that the fold is that.
pub mod Line
pub mod Whole
pub mod Reading
pub mod Gather
