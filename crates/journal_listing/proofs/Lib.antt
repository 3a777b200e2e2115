-- The laws of the listing a line at a time, one idea to a file, in the order in which they build on each other, and worked examples of its text.
-- `LinesJoined` has the theorem that the lines are the listing, `LinesFit` that each fits the buffer.

-- mean and spread of what stands at a place
pub mod There
-- texts put one behind another
pub mod Putting
pub mod Texts
pub mod Copying
pub mod Pairs
-- the calls
pub mod Steps
pub mod Falling
-- the theorems
pub mod Starting
pub mod LinesJoined
pub mod Longest
pub mod Faults
pub mod LinesFit
pub mod FormerListing
pub mod Figures
-- examples
pub mod Examples
-- nothing is left free
pub mod Cursors
