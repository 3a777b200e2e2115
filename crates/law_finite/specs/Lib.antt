-- What request 2026-06 says: every number on the way to a limit is finite, under both forms; and what 2026-11 says of both ends of a band.
pub mod Finite
