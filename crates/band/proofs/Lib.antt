-- The band over the limit's mean and spread, worked cases, and that no two answers have one meaning.
pub mod Worked
pub mod Meaning
pub mod Cases
