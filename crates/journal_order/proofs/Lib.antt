-- The laws of sorted places.
-- Assumes nothing.
pub mod KeyRead
pub mod Below
pub mod Having
pub mod Searching
pub mod Inserting
pub mod Taking
pub mod Entering
pub mod Gathering
pub mod Meaning
