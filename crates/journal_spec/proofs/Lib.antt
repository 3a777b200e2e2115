-- The laws on the journal's definitions, one idea to a file, and the theorem of the whole list.
-- `Format` has the format's laws by name, `Fields` and `Scanned` say the record's fields and scan's answers in the paper's words, `Demand` is the
-- theorem, `Continued` that it goes on from a journal that stands, `Shown`, `Answers`, `TornOrWhole` and `ShutOut` what follows from it, `Former`,
-- `Marks` and `Unchanged` what document 02's requests changed of reading, and what not.

-- numbers, refusals, readers, sections, records
pub mod Numbers
pub mod Judging
pub mod Reading
pub mod Sections
pub mod Each
pub mod Limits
pub mod Records
pub mod SameRefusals
pub mod Asking
pub mod Ranged
pub mod Fields
-- what stands in a request, and the verdict on it
pub mod Given
pub mod Verdicts
-- scan and append
pub mod Places
pub mod Scanning
pub mod Profiles
pub mod NameOrder
pub mod Indexes
pub mod Standing
pub mod Explained
pub mod Independent
pub mod Format
pub mod Refused
pub mod Table
pub mod Scanned
pub mod Placing
pub mod StandingBytes
-- the log
pub mod Lines
pub mod Logs
-- what came before document 02's requests
pub mod Former
pub mod Marks
pub mod Unchanged
-- demand 3
pub mod Demand
pub mod Reach
pub mod Continued
pub mod Shown
pub mod Answers
pub mod Cut
pub mod TornOrWhole
mod NamedCalls
pub mod IndexAfter
pub mod Making
pub mod Threaded
pub mod ShutOut
-- examples
pub mod EvenChance
pub mod Examples
-- for the proofs of code
pub mod NumberFromBytes
pub mod FieldAt
pub mod SectionAt
pub mod RecordsLoop
pub mod RefusalFrom
pub mod Pieces
pub mod TimesRead
pub mod Cursor
pub mod Whole
pub mod IndexLoop
pub mod Writing
