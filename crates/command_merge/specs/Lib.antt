-- The verdict's text.
-- The merge itself is defined in crate journal_merge_spec.
pub mod Verdict
