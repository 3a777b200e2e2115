-- The definitions that the contracts cite: the exact decimal text of a double, and a fraction in lowest terms; and what the laws say of the text.
pub mod Decimal
pub mod Lowest
pub mod Meaning
