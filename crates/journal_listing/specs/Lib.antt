-- The definitions of the listing's text, whole and a line at a time.
-- They stand over the journal's definitions in crate journal_spec and the digits of crate text_digits.
pub mod Listing
pub mod Spaced
pub mod MomentsIn
pub mod Lines
