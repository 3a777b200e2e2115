-- The laws that the proofs of the C interface cite.
-- Assumes nothing.
pub mod AppendOutcome
pub mod IndexOutcome
pub mod LineAt
pub mod Listed
pub mod MergeOutcome
pub mod TrialWords
