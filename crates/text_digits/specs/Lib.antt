-- The definitions that the contracts cite: digits and numerals, bytes put into a lent line, and two texts compared.
pub mod Hex
pub mod Same
pub mod Text
