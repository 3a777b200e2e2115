-- What the contracts of the index's code cite besides the journal's definitions: the answers, and for private contracts what stands in bytes.
-- The index itself is defined in crate journal_spec.
pub mod Outcome
pub mod Checked
pub mod Made
pub mod Begun
pub mod Offered
-- for private contracts: what stands in bytes, and the entries of records at places
pub mod Standing
pub mod Places
