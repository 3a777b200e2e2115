-- What the laws of this crate say.
pub mod Sides
pub mod Mirror
