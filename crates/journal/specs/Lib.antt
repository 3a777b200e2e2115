-- What the contracts of the code cite besides the journal's definitions. What a reader must believe comes first: the public functions'
-- answers and document 01's step. What stands behind it is there for contracts of private functions.

-- the public functions' answers in document 01's words
pub mod Answers
-- what a call is handed, as the definitions take it: budget and rule; behind them what the check of an offer says
pub mod Handed
-- the step of the call with k
pub mod Stepped
-- an answer with its refusal by number
pub mod Told
-- for private contracts:
-- the rules of sections, fields and sections, the record, the pass over the records
pub mod Rules
pub mod Found
pub mod Records
pub mod Contents
