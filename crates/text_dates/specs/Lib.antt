-- The definitions that the contracts cite: the date of a day, by counting, and its text.
pub mod Calendar
pub mod Iso
