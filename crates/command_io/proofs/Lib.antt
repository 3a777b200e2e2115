-- The laws of numbers read from text, of a path's folder and of gathered output, and worked examples.
-- Assumes nothing.
pub mod Texts
pub mod Storing
pub mod Folders
pub mod Gathering
pub mod Examples
pub mod Showing
pub mod Rows
