-- The laws, one idea to a file, in the order in which they build on each other. The request is met in `ExactProduct`:
-- `exact_product`, and `dekker_steps` for every step on the way. Request 2026-13 stands on `exact_add_twice` of `FastSum`, and on `Zeros`.
pub mod Signed
pub mod Multiple
pub mod Integers
pub mod Lossless
pub mod Halves
pub mod Dekker
pub mod ExactProduct
pub mod Own
pub mod Zeros
pub mod FastSum
pub mod Cases
