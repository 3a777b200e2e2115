-- What the contracts of the shared parts of a replay cite.
pub mod Lines
pub mod Tally
