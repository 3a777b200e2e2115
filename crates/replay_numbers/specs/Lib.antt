-- What the contracts of the replay of numbers cite.
pub mod Kinds
pub mod Numbers
