-- Laws of the exact decimal: powers and lowest terms, the digits behind the point, which doubles are shown; that the text is exactly the double, that no other
-- is, and how long it is; closed cases.
mod FirstDigit
pub mod Powers
pub mod LowestTerms
pub mod Behind
pub mod Shown
pub mod Reading
pub mod Exactly
pub mod Numerals
pub mod Only
pub mod Longest
mod Examples
