-- The definitions of a trial (request 2026-12): counts, the log's lines as links, and what the two calls answer.
-- Those of a journal, its log's shape and its index are in crate journal_spec.
pub mod Tally
pub mod Links
pub mod Trial
