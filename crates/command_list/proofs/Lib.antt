-- What the commands need of the listing.
-- Assumes nothing.
pub mod EndState
