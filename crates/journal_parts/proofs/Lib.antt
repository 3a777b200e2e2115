-- A number by whether its bytes stand; the record that is found at a place without judging it, and where its sections stand.
-- `Parts` has the law: where a record stands, these are its parts.
pub mod NumberStands
pub mod Plainly
pub mod Reached
pub mod Insides
pub mod Rooms
pub mod Parts
pub mod Front
