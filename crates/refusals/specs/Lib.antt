-- The definitions that the contracts cite: the papers' number for each refusal.
pub mod Listed
pub mod Refusals
