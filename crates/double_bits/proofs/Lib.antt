-- What a bit pattern stands for, one idea to a file: how many digits a number has, the pattern of a value, NaN's patterns, and the value of a
-- pattern by its fields.
pub mod Digits
pub mod Patterns
pub mod Nans
pub mod Fields
