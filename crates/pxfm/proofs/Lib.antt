-- The laws behind the port's proofs, one idea to a file, in the order in which they build on each other.
-- Document 01's statements on the port are in `Argument`, `Rows`, `Shift`, `Exponent`, `Bins`, `Reduced`, `ScaledValue`, `FirstTests` and `Answers`.
pub mod Calls
mod Paired
pub mod Nan
pub mod Value
pub mod Product
pub mod Exact
pub mod Error
pub mod Units
pub mod Order
pub mod Bits
pub mod Unique
pub mod Ranges
pub mod Complement
pub mod Argument
pub mod Tables
pub mod Rows
pub mod Shift
pub mod Exponent
pub mod Bins
pub mod Reduced
pub mod ScaledValue
pub mod FirstTests
pub mod Answers
pub mod Signs
pub mod Odd
pub mod PositiveFinite
