-- The laws behind the proofs of the code, one idea to a file, in the order in which they build on each other.
-- `Inside` says that the part which reading answers lies inside the slice.

-- fields and sections
pub mod Ranges
pub mod Stopping
pub mod Fields
pub mod Items
pub mod RuleLoop
pub mod Sections
pub mod LimitsLoop
-- the record
pub mod Flat
pub mod Parts
pub mod LimitsPart
pub mod Heads
-- the mark
pub mod Equal
-- the pass over the records, and the answers
pub mod Counting
pub mod InProfile
pub mod Inside
pub mod Answering
-- writing
pub mod Laying
pub mod Filling
pub mod Turns
-- the check of an offer
pub mod Checking
pub mod WorkedOut
pub mod RefusalOrder
pub mod Extending
pub mod Through
pub mod Meaning
