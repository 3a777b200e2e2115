-- The journal's definitions, in the order in which they build on each other. What a reader must believe comes first; what stands behind it
-- is there for private contracts of the code, and no public contract and no promise speaks of it.

-- the format: bytes, refusals, readers and sections of fields, the record
pub mod Bytes
pub mod Refusals
pub mod Reader
pub mod Section
pub mod Record
-- ranges as tests, and the build server's log
pub mod Tests
pub mod Log
-- what scan, reading and append answer
pub mod Profile
pub mod Scan
pub mod Cursor
pub mod Index
pub mod Indexed
pub mod Read
pub mod Request
pub mod Append
pub mod MakeIndex
pub mod CheckIndex
-- demand 3: the list of calls, the model, the ranges, the statement, and the words of its sentence
pub mod Calls
pub mod Model
pub mod Ranges
pub mod Demand
pub mod Shown
-- a record's fields as the paper has them, and what scan answers in its words
pub mod Fields
pub mod Scanned
-- what came before document 02's requests, for the laws about old journals
pub mod Former
-- for private contracts: the record's reader from each of its parts on
pub mod Stages
