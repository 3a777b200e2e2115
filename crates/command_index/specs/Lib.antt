-- The lines that `awaqlla index` prints, and the exit status that each decides.
-- The index itself is defined in crate journal_spec.
pub mod Verdict
pub mod Found
